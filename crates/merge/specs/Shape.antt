-- When a part that comes back has the shape of what went out: nothing of it differs but what a
-- worker may change.
use Rattle.std.specs.Prelude.{◌≡◌, ℕ, List, length, map, take}
use Rattle.std.specs.List.{zip}
use Rattle.ticket_tree.specs.Part.{PartCopy}
use Rattle.ticket_rows.specs.Place.{Thing, named_thing, node_thing}
use Rattle.ticket_rows.specs.Ticket.{Job}
use Rattle.ticket_items.specs.declared.audit.Audit.{Audit}
use Rattle.ticket_items.specs.declared.node_row.NodeRow.{NodeRow}
use Rattle.spawn.specs.Parts.{part_for}
use Rattle.spawn.specs.declared.records.spawn_rec.SpawnRec.{SpawnRec}

-- what of a row no worker may change: its id and depth, its Type, job part and links, and the ids,
-- names and Classes of its pool
pub record Shape : Type 0 where
  pub id : List ℕ
  pub depth : ℕ
  pub thing : Thing
  pub pool : List (List ℕ × Thing)

abbrev pub shape : NodeRow → Shape
shape r = record { id = r.id; depth = r.depth; thing = node_thing r; pool = map named_thing r.resources }

-- of the audits of the second row as many as the first has
abbrev pub first_audits : NodeRow × NodeRow → List Audit
first_audits rows = take (length rows.0.audits) rows.1.audits

-- a part fits the claim of a spawn: it has its job and spawn id, its rows and copies to change have
-- the shape of the ticket's, in their order, and the audits of each node begin with those that it
-- has in the ticket
pub record Fits (t : Job) (r : SpawnRec) (p : PartCopy) : Type 0 where
  pub job : p.job_id ≡ t.job_id
  pub spawn : p.spawn_id ≡ r.id
  pub rows : map shape p.rows ≡ map shape (part_for t r).rows
  pub rw : map named_thing p.rw ≡ map named_thing (part_for t r).rw
  pub audits : map first_audits (zip (part_for t r).rows p.rows)
      ≡ map (λ o. o.audits) (part_for t r).rows
