use Rattle.ticket_tree.proofs.Parents.{one_parent_each}
use Rattle.ticket_tree.proofs.laws.each_node_has_one_parent.Goals as goal

pub returns : goal.returns
returns c = one_parent_each
