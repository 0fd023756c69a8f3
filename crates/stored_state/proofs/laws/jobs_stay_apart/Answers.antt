use Rattle.stored_state.proofs.Apart.{jobs_apart}
use Rattle.stored_state.proofs.laws.jobs_stay_apart.Goals as goal

pub returns : goal.returns
returns c = jobs_apart
