use Rattle.std.proofs.Common.{append_assoc}
use Rattle.job_picture.specs.Wall.{nodes_words}
use Rattle.job_picture.proofs.wall.nodes_words.Goals as goal

pub returns : goal.returns
unfolding nodes_words
returns c = simp append_assoc (rw (← c.in_ok-folded.ensures, ← c.in_ok-others.ensures) c.format.ensures.ok)
