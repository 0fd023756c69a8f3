use Rattle.worker_core.proofs.KeptStored.{a_kept_worker_is_stored}
use Rattle.worker_core.proofs.laws.a_kept_worker_is_stored.Goals as goal

pub returns : goal.returns
returns c = a_kept_worker_is_stored
