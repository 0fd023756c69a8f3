use Rattle.ticket_tree.proofs.LookUps.{nodes_among_places, resources_among_places, places_by_kind}
use Rattle.ticket_tree.proofs.laws.places_are_found_by_kind.Goals as goal

pub returns-clause-nodes : goal.returns-clause-nodes
returns-clause-nodes c = nodes_among_places

pub returns-clause-resources : goal.returns-clause-resources
returns-clause-resources c = resources_among_places

pub returns-clause-kinds : goal.returns-clause-kinds
returns-clause-kinds c = places_by_kind
