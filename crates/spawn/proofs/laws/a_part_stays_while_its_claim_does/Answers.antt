use Rattle.spawn.proofs.PartStays.{part_stays}
use Rattle.spawn.proofs.laws.a_part_stays_while_its_claim_does.Goals as goal

pub returns : goal.returns
returns c = part_stays
