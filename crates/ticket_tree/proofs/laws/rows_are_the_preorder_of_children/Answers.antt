use Rattle.ticket_tree.proofs.Preorder.{rows_are_preorder}
use Rattle.ticket_tree.proofs.laws.rows_are_the_preorder_of_children.Goals as goal

pub returns : goal.returns
returns c = rows_are_preorder
