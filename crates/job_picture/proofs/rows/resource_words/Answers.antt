use Rattle.std.proofs.Common.{append_assoc, rules}
use Rattle.job_picture.specs.Rows.{resource_words}
use Rattle.job_picture.proofs.rows.resource_words.Goals as goal

pub returns : goal.returns
unfolding resource_words
returns c = simp append_assoc (search rules)
