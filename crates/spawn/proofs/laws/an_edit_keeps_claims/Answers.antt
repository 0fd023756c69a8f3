use Rattle.spawn.proofs.EditApart.{edit_keeps_apart}
use Rattle.spawn.proofs.EditKeeps.{edit_keeps_claims}
use Rattle.spawn.proofs.laws.an_edit_keeps_claims.Goals as goal

pub returns-clause-claims : goal.returns-clause-claims
returns-clause-claims c = edit_keeps_claims

pub returns-clause-apart : goal.returns-clause-apart
returns-clause-apart c = edit_keeps_apart
