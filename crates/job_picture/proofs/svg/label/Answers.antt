use Rattle.std.proofs.Common.{append_assoc, rules}
use Rattle.job_picture.specs.Svg.{label}
use Rattle.job_picture.proofs.svg.label.Goals as goal

pub returns : goal.returns
unfolding label
returns c = simp append_assoc (search rules)
