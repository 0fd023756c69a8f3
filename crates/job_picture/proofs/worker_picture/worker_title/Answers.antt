use Rattle.std.proofs.Common.{append_assoc, rules}
use Rattle.job_picture.specs.WorkerPicture.{worker_title}
use Rattle.job_picture.proofs.worker_picture.worker_title.Goals as goal

pub returns : goal.returns
unfolding worker_title
returns c = simp append_assoc (search rules)
