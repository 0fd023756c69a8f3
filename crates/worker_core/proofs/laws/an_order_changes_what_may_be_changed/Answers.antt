use Rattle.worker_core.proofs.Kept.{order_is_kept}
use Rattle.worker_core.proofs.OrderLaws.{order_keeps_entries}
use Rattle.worker_core.proofs.laws.an_order_changes_what_may_be_changed.Goals as goal

pub returns-clause-entries : goal.returns-clause-entries
returns-clause-entries c = order_keeps_entries

pub returns-clause-kept : goal.returns-clause-kept
returns-clause-kept c = order_is_kept
