use Rattle.ticket_tree.proofs.StaysValid.{edit_is_valid, append_is_valid, replaced_node_is_valid}
use Rattle.ticket_tree.proofs.StaysValid.{replaced_resource_is_valid}
use Rattle.ticket_tree.proofs.laws.changes_leave_a_ticket.Goals as goal

pub returns-clause-edits : goal.returns-clause-edits
returns-clause-edits c = edit_is_valid

pub returns-clause-append : goal.returns-clause-append
returns-clause-append c = append_is_valid

pub returns-clause-nodes : goal.returns-clause-nodes
returns-clause-nodes c = replaced_node_is_valid

pub returns-clause-resources : goal.returns-clause-resources
returns-clause-resources c = replaced_resource_is_valid
