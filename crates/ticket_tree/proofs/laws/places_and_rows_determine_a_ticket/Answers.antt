use Rattle.ticket_tree.proofs.Pieces.{places_and_rows_determine}
use Rattle.ticket_tree.proofs.laws.places_and_rows_determine_a_ticket.Goals as goal

pub returns : goal.returns
returns c = places_and_rows_determine
