use Rattle.ticket_tree.proofs.Parents.{below_by_parent}
use Rattle.ticket_tree.proofs.laws.below_is_the_same_or_has_a_parent_below.Goals as goal

pub returns : goal.returns
returns c = below_by_parent
