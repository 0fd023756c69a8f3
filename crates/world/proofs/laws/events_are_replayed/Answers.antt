use Rattle.world.proofs.Runs.Events.{events_are_replayed}
use Rattle.world.proofs.laws.events_are_replayed.Goals as goal

pub returns : goal.returns
returns c = events_are_replayed
