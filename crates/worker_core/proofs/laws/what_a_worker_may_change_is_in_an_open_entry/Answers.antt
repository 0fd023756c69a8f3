use Rattle.worker_core.proofs.OrderLaws.{may_change_is_held, edit_is_of_held}
use Rattle.worker_core.proofs.laws.what_a_worker_may_change_is_in_an_open_entry.Goals as goal

pub returns-clause-held : goal.returns-clause-held
returns-clause-held c = may_change_is_held

pub returns-clause-edits : goal.returns-clause-edits
returns-clause-edits c = edit_is_of_held
