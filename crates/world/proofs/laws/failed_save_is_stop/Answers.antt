use Rattle.world.proofs.Runs.Stopped.{failed_save_is_stop}
use Rattle.world.proofs.laws.failed_save_is_stop.Goals as goal

pub returns : goal.returns
returns c = failed_save_is_stop
