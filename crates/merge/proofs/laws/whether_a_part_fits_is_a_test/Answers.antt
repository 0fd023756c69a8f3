use Rattle.merge.proofs.Fitting.{fit-Decides}
use Rattle.merge.proofs.laws.whether_a_part_fits_is_a_test.Goals as goal

pub returns : goal.returns
returns c = fit-Decides
