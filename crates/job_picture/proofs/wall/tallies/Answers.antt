use Rattle.std.proofs.Common.{append_assoc}
use Rattle.job_picture.specs.Wall.{tallies}
use Rattle.job_picture.proofs.wall.tallies.Goals as goal

pub returns : goal.returns
unfolding tallies
returns c = simp append_assoc (rw (← c.in_ok-waiting.ensures, ← c.in_ok-begun.ensures, ← c.in_ok-completed.ensures, ← c.in_ok-aborted.ensures) c.format.ensures.ok)
