use Rattle.std.proofs.Common.{append_assoc, rules}
use Rattle.job_picture.specs.Svg.{shape}
use Rattle.job_picture.proofs.svg.shape.Goals as goal

pub returns : goal.returns
unfolding shape
returns c = simp append_assoc (search rules)
