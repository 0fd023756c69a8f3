use Rattle.worker_core.proofs.MessageLaws.{abort_is_declined, declined_stays}
use Rattle.worker_core.proofs.laws.a_declined_spawn_stays_so.Goals as goal

pub returns-clause-declined : goal.returns-clause-declined
returns-clause-declined c = abort_is_declined

pub returns-clause-stays : goal.returns-clause-stays
returns-clause-stays c = declined_stays
