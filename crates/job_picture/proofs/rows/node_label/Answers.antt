use Rattle.std.proofs.Common.{append_assoc, rules}
use Rattle.job_picture.specs.Rows.{node_label}
use Rattle.job_picture.proofs.rows.node_label.Goals as goal

pub returns : goal.returns
unfolding node_label
returns c = simp append_assoc (search rules)
