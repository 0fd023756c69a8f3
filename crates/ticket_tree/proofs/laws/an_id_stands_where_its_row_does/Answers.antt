use Rattle.ticket_tree.proofs.LookUps.{stands_with_row}
use Rattle.ticket_tree.proofs.laws.an_id_stands_where_its_row_does.Goals as goal

pub returns : goal.returns
returns c = stands_with_row
