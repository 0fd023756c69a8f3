use Rattle.std.proofs.Common.{append_assoc, rules}
use Rattle.job_picture.specs.Moments.{moment_text}
use Rattle.job_picture.proofs.moments.moment_text.Goals as goal

pub returns : goal.returns
unfolding moment_text
returns c = simp append_assoc (search rules)
