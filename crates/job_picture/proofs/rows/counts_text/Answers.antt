use Rattle.std.proofs.Common.{append_assoc}
use Rattle.job_picture.specs.Rows.{counts_text}
use Rattle.job_picture.proofs.rows.counts_text.Goals as goal

pub returns : goal.returns
unfolding counts_text
returns c = simp append_assoc (rw (← c.count_available-available.ensures) c.format.ensures.ok)
