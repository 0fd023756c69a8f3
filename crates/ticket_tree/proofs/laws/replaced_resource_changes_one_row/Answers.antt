use Rattle.ticket_tree.proofs.PlainOneRow.{replaced_resource_of_places, replaced_resource_of_rows}
use Rattle.ticket_tree.proofs.laws.replaced_resource_changes_one_row.Goals as goal

pub returns-clause-places : goal.returns-clause-places
returns-clause-places c = replaced_resource_of_places

pub returns-clause-rows : goal.returns-clause-rows
returns-clause-rows c = replaced_resource_of_rows
