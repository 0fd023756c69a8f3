use Rattle.std.proofs.Common.{append_assoc, rules}
use Rattle.job_picture.specs.Wall.{count_left_out}
use Rattle.job_picture.proofs.wall.count_left_out.Goals as goal

pub returns : goal.returns
unfolding count_left_out
returns c = simp append_assoc (search rules)
