-- Tests of what a worker may not change: of whole rows, and of the copies to change.
use Rattle.std.specs.Cmp.Lexicographic.{pointwise}
use Rattle.std.specs.Prelude.{ℕ, ◌-◌, ◌&&◌, ◌==◌, Bool, List, [], ◌∷◌, length, Option, Some}
use Rattle.std.specs.List.{starts_with}
use Rattle.std.specs.Option.{option_and_then}
use Rattle.std.specs.Str.{bytes_eq}
use Rattle.ticket_items.specs.Resource.{is_alike}
use Rattle.ticket_items.specs.contracts.audit.AuditPartialEq.TheImpl as audit
use Rattle.ticket_items.specs.contracts.link.LinkPartialEq.TheImpl as link
use Rattle.ticket_items.specs.declared.audit.Audit.{Audit}
use Rattle.ticket_items.specs.declared.link.Link.{Link}
use Rattle.ticket_items.specs.declared.node_row.NodeRow.{NodeRow}
use Rattle.ticket_items.specs.declared.resource.Resource.{Resource}
use Rattle.ticket_rows.specs.Ticket.{Job}
use Rattle.ticket_tree.specs.At.{rows_below}
use Rattle.ticket_tree.specs.Part.{PartCopy}
use Rattle.spawn.specs.OfResource as of
use Rattle.spawn.specs.Parts.{above, resources_among}
use Rattle.spawn.specs.declared.records.spawn_rec.SpawnRec.{SpawnRec}

-- whether two links are the same, as their `==` tells
abbrev pub is_link : Link → Link → Bool
is_link = (link.ghosts).eq

-- whether two audits are the same, as their `==` tells
abbrev pub is_audit : Audit → Audit → Bool
is_audit = (audit.ghosts).eq

-- whether a row of a part is the ticket's, levels higher, but for what a worker may change
abbrev pub is_row : ℕ → NodeRow → NodeRow → Bool
is_row levels old new =
    bytes_eq old.id new.id && (old.depth - levels) == new.depth && bytes_eq old.kind new.kind
    && bytes_eq old.job_part new.job_part && pointwise is_link old.links new.links
    && pointwise is_alike old.resources new.resources && starts_with is_audit new.audits old.audits

-- what is left of the second list behind one that is the same as the first in its ids, names and
-- Classes, if it begins so
abbrev pub behind : List Resource → List Resource → Option (List Resource)
behind [] copies = Some copies
behind (x ∷ xs) copies = option_and_then (behind xs) (of.behind (is_alike x) copies)

-- whether a part has the job and spawn id of a record, and its rows and copies to change are these
-- rows, so many levels higher, and the resources of the record, but for what a worker may change
abbrev pub is_part : Job → SpawnRec → List NodeRow → ℕ → PartCopy → Bool
is_part t r below levels p =
    bytes_eq p.job_id t.job_id && p.spawn_id == r.id && pointwise (is_row levels) below p.rows
    && pointwise is_alike (resources_among r.rw t.rows) p.rw

-- whether a part fits the claim of a spawn, as a test: it is one in the same cases in which `Fits`
-- holds
abbrev pub is_fit : Job → SpawnRec → PartCopy → Bool
is_fit t r p = is_part t r (rows_below t.rows r.node) (length (above t.rows r.node)) p
