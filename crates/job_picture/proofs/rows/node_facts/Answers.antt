use Rattle.std.proofs.Common.{append_assoc, rules}
use Rattle.job_picture.specs.Rows.{node_facts}
use Rattle.job_picture.proofs.rows.node_facts.Goals as goal

pub returns : goal.returns
unfolding node_facts
returns c = simp append_assoc (search rules)
