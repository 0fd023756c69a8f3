use Rattle.std.proofs.Common.{append_assoc}
use Rattle.job_picture.specs.Rows.{node_text}
use Rattle.job_picture.proofs.rows.node_text.Goals as goal

pub returns : goal.returns
unfolding node_text
returns c = simp append_assoc (rw (← c.in_ok-words.ensures, ← c.shade-colour.ensures, ← c.in_ok-drawn.ensures, ← c.in_ok-facts.ensures) c.format.ensures.ok)
