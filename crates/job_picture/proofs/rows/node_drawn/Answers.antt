use Rattle.std.proofs.Common.{append_assoc, rules}
use Rattle.job_picture.specs.Rows.{node_drawn}
use Rattle.job_picture.proofs.rows.node_drawn.Goals as goal

pub returns : goal.returns
unfolding node_drawn
returns c = simp append_assoc (search rules)
