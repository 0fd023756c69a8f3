use Rattle.spawn.proofs.KeptApart.{spawn_keeps_apart}
use Rattle.spawn.proofs.laws.a_spawn_keeps_claims_apart.Goals as goal

pub returns : goal.returns
returns c = spawn_keeps_apart
