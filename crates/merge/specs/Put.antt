-- What a merge makes of a ticket: the rows of the claim are the part's, and an audit tells of it.
use Rattle.std.specs.Prelude.{ℕ, List, map}
use Rattle.std.specs.List.{find}
use Rattle.std.specs.Option.{option_map_or}
use Rattle.std.specs.Str.{bytes_eq}
use Rattle.ticket_rows.specs.OneRow.{rows_with_audit}
use Rattle.ticket_tree.specs.Part.{PartCopy}
use Rattle.ticket_items.specs.SpawnId.{spawn_text}
use Rattle.ticket_rows.specs.Ticket.{Job, row_of}
use Rattle.ticket_items.specs.declared.audit.Audit.{Audit}
use Rattle.ticket_items.specs.declared.audit.Audit.TheVariants.{Merged}
use Rattle.ticket_items.specs.declared.node_row.NodeRow.{NodeRow}
use Rattle.ticket_items.specs.declared.resource.Resource.{Resource}
use Rattle.spawn.specs.Spawning.{parent_of}
use Rattle.spawn.specs.declared.records.spawn_rec.SpawnRec.{SpawnRec}

-- the audit that tells of a merge (JDF 1.5, 3.11)
abbrev pub merged_audit : SpawnRec → ℕ → Audit
merged_audit r at = Merged at r.node (spawn_text r.id) r.rw

-- a resource as it is among these, or as it was
abbrev pub resource_from : List Resource → Resource → Resource
resource_from new x = option_map_or (λ y. y) (find (λ y. bytes_eq y.id x.id) new) x

-- a row as the part has it, at its own depth, or as it was but for the part's copies to change
abbrev pub row_from : PartCopy → NodeRow → NodeRow
row_from p r =
    option_map_or (λ (new : NodeRow). record new { depth = r.depth }) (row_of p.rows r.id)
    (record r { resources = map (resource_from p.rw) r.resources })

-- the rows with those of a part in their places, by id
abbrev pub rows_from : PartCopy → List NodeRow → List NodeRow
rows_from p rows = map (row_from p) rows

-- the ticket after a merge: the claim as the part has it, and an audit that stands last at the
-- parent of the spawned node
abbrev pub put : Job → SpawnRec → PartCopy → ℕ → Job
put t r p at =
    record t { rows = rows_with_audit (parent_of t.rows r.node) (merged_audit r at) (rows_from p t.rows) }
