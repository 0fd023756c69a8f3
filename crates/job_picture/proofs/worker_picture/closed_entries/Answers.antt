use Rattle.std.proofs.Common.{append_assoc, rules}
use Rattle.job_picture.specs.WorkerPicture.{closed_entries}
use Rattle.job_picture.proofs.worker_picture.closed_entries.Goals as goal

pub returns : goal.returns
unfolding closed_entries
returns c = simp append_assoc (search rules)
