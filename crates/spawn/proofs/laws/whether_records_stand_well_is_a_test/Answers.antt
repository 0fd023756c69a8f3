use Rattle.spawn.proofs.HeldOnce.{standing_is_a_test}
use Rattle.spawn.proofs.laws.whether_records_stand_well_is_a_test.Goals as goal

pub returns : goal.returns
returns c = standing_is_a_test
