use Rattle.std.proofs.Common.{append_assoc}
use Rattle.job_picture.specs.Wall.{head}
use Rattle.job_picture.proofs.wall.head.Goals as goal

pub returns : goal.returns
unfolding head
returns c = simp append_assoc (rw (← c.in_ok-text.ensures) c.format.ensures.ok)
