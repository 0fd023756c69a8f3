use Rattle.ticket_tree.proofs.PlainOneRow.{replaced_node_of_places, replaced_node_of_rows}
use Rattle.ticket_tree.proofs.laws.replaced_node_changes_its_rows.Goals as goal

pub returns-clause-places : goal.returns-clause-places
returns-clause-places c = replaced_node_of_places

pub returns-clause-rows : goal.returns-clause-rows
returns-clause-rows c = replaced_node_of_rows
