use Rattle.master_core.proofs.OrderLaws.{edit_is_of_held}
use Rattle.master_core.proofs.laws.what_a_master_may_change_it_holds.Goals as goal

pub returns-clause-edits : goal.returns-clause-edits
returns-clause-edits c = edit_is_of_held
