use Rattle.ticket_tree.proofs.Parents.{depth_is_path_length}
use Rattle.ticket_tree.proofs.laws.depth_is_length_of_path.Goals as goal

pub returns : goal.returns
returns c = depth_is_path_length
