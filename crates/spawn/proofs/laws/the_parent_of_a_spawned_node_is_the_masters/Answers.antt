use Rattle.spawn.proofs.Lawful.{parent_is_masters}
use Rattle.spawn.proofs.laws.the_parent_of_a_spawned_node_is_the_masters.Goals as goal

pub returns : goal.returns
returns c = parent_is_masters
