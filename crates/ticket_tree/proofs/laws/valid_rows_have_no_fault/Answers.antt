use Rattle.ticket_tree.proofs.Plain.{no_fault_is_valid}
use Rattle.ticket_tree.proofs.laws.valid_rows_have_no_fault.Goals as goal

pub returns : goal.returns
returns c = no_fault_is_valid
