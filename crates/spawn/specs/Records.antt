-- The records of spawns: which are out, and which are good.
use Rattle.std.specs.Prelude.{◌≡◌, Bool, true, false, List, map, is_some}
use Rattle.ticket_rows.specs.Place.{named_thing, named_thing_at, node_places, places, up}
use Rattle.ticket_items.specs.declared.node_row.NodeRow.{NodeRow}
use Rattle.plain_shop.specs.Claim.{ids_of, linked_rw, linked_ro}
use Rattle.spawn.specs.declared.records.phase.Phase.{Phase}
use Rattle.spawn.specs.declared.records.phase.Phase.TheVariants.{Out, Merged, Withdrawn}
use Rattle.spawn.specs.declared.records.spawn_rec.SpawnRec.{SpawnRec}

-- whether the part of a spawn is with another controller: it was neither merged nor withdrawn
abbrev pub is_out_phase : Phase → Bool
is_out_phase Out = true
is_out_phase Merged = false
is_out_phase Withdrawn = false

abbrev pub is_out : SpawnRec → Bool
is_out r = is_out_phase r.phase

-- a record is good in a ticket: its node stands below another; the copies that may be changed are
-- linked outside the node, in ticket order; and the copies to read are all others that are, in
-- ticket order, each with the ticket's name and Class
pub record IsGood (rows : List NodeRow) (r : SpawnRec) : Type 0 where
  pub has_parent : is_some (up (node_places rows) r.node) ≡ true
  pub rw : r.rw ≡ ids_of (linked_rw (places rows) r.node r.rw)
  pub ro : map named_thing r.ro ≡ map named_thing_at (linked_ro (places rows) r.node r.rw)
