use Rattle.std.proofs.Common.{append_assoc, rules}
use Rattle.job_picture.specs.Wall.{wall_head}
use Rattle.job_picture.proofs.wall.wall_head.Goals as goal

pub returns : goal.returns
unfolding wall_head
returns c = simp append_assoc (search rules)
