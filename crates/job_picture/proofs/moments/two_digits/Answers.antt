use Rattle.std.proofs.Common.{rules}
use Rattle.job_picture.specs.Moments.{two_digits}
use Rattle.job_picture.proofs.moments.two_digits.Goals as goal

pub returns : goal.returns
unfolding two_digits
returns c = search rules
