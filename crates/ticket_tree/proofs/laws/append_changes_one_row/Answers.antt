use Rattle.ticket_tree.proofs.PlainOneRow.{append_of_places, append_of_rows}
use Rattle.ticket_tree.proofs.laws.append_changes_one_row.Goals as goal

pub returns-clause-places : goal.returns-clause-places
returns-clause-places c = append_of_places

pub returns-clause-rows : goal.returns-clause-rows
returns-clause-rows c = append_of_rows
