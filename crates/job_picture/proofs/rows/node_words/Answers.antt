use Rattle.std.proofs.Common.{append_assoc, rules}
use Rattle.job_picture.specs.Rows.{node_words}
use Rattle.job_picture.proofs.rows.node_words.Goals as goal

pub returns : goal.returns
unfolding node_words
returns c = simp append_assoc (search rules)
