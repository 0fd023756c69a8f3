use Rattle.ticket_tree.proofs.LookUps.{node_is_at_place, resource_is_at_place, home_is_at_place}
use Rattle.ticket_tree.proofs.laws.lookups_are_plain.Goals as goal

pub returns-clause-nodes : goal.returns-clause-nodes
returns-clause-nodes c = node_is_at_place

pub returns-clause-resources : goal.returns-clause-resources
returns-clause-resources c = resource_is_at_place

pub returns-clause-homes : goal.returns-clause-homes
returns-clause-homes c = home_is_at_place
