use Rattle.std.proofs.Common.{append_assoc, rules}
use Rattle.job_picture.specs.Svg.{placed_drawing}
use Rattle.job_picture.proofs.svg.placed_drawing.Goals as goal

pub returns : goal.returns
unfolding placed_drawing
returns c = simp append_assoc (search rules)
