use Rattle.spawn.proofs.Ended.{end_keeps_apart, end_keeps_others, ended_claim_is_masters}
use Rattle.spawn.proofs.laws.a_spawn_that_ends_gives_its_claim_back.Goals as goal

pub returns-clause-apart : goal.returns-clause-apart
returns-clause-apart c = end_keeps_apart

pub returns-clause-claimed : goal.returns-clause-claimed
returns-clause-claimed c = ended_claim_is_masters

pub returns-clause-others : goal.returns-clause-others
returns-clause-others c = end_keeps_others
