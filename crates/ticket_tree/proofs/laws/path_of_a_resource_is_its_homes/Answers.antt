use Rattle.ticket_tree.proofs.LookUps.{path_is_homes}
use Rattle.ticket_tree.proofs.laws.path_of_a_resource_is_its_homes.Goals as goal

pub returns : goal.returns
returns c = path_is_homes
