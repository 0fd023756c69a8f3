use Rattle.spawn.proofs.Lawful.{claim_is_held, held_is_claimed}
use Rattle.spawn.proofs.laws.a_spawn_that_is_out_holds_its_claim.Goals as goal

pub returns-clause-claimed : goal.returns-clause-claimed
returns-clause-claimed c = claim_is_held

pub returns-clause-held : goal.returns-clause-held
returns-clause-held c = held_is_claimed
