-- An edit is refused on the rows for what it is refused for on the plain ticket.
use Rattle.std.proofs.Common.{List}
use Rattle.ticket_items.specs.Act.{act_of}
use Rattle.ticket_rows.proofs.Alike.{AreAlike, refusal_alike}
use Rattle.ticket_rows.specs.Edit.{lookups}
use Rattle.ticket_rows.specs.Place.{places}
use Rattle.ticket_rows.specs.Ticket.{IsValid}
use Rattle.ticket_items.specs.declared.node_row.NodeRow.{NodeRow}
use Rattle.ticket_tree.proofs.OnPlaces.{stands_node, stands_resource, stands_somewhere, room_is}
use Rattle.ticket_tree.proofs.OnPlaces.{above_is}
use Rattle.ticket_tree.specs.Laws.{RefusalIsPlain}
use Rattle.ticket_tree.specs.PlainEdit.{plain_lookups}

-- rows and places answer alike
pub lookups_alike : (rows : List NodeRow) → IsValid rows
    → AreAlike (plain_lookups (places rows)) (lookups rows)
lookups_alike rows valid =
    record { nodes = stands_node rows; resources = stands_resource rows; ids = stands_somewhere rows; rooms = λ n. room_is rows n valid; homes = above_is rows }

pub refusal_is_plain : RefusalIsPlain
refusal_is_plain e rows valid = refusal_alike (act_of e) (plain_lookups (places rows)) (lookups rows) (lookups_alike rows valid)
