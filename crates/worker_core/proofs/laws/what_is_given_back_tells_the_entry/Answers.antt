use Rattle.worker_core.proofs.OrderLaws.{resent_is_same, return_is_of_entry}
use Rattle.worker_core.proofs.laws.what_is_given_back_tells_the_entry.Goals as goal

pub returns-clause-entry : goal.returns-clause-entry
returns-clause-entry c = return_is_of_entry

pub returns-clause-again : goal.returns-clause-again
returns-clause-again c = resent_is_same
