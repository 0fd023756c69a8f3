-- What a ticket shows of the spawns that are out: the Status of the nodes that were spawned, and
-- what resources show that were copied. Nothing else of it changes.
use Rattle.std.specs.Prelude.{ℕ, false, List, [], map, codes, find, if◌then◌else◌, Option}
use Rattle.std.specs.Option.{option_map_or}
use Rattle.std.specs.Str.{bytes_eq}
use Rattle.ticket_items.specs.Ids.{mem}
use Rattle.ticket_items.specs.SpawnId.{spawn_text}
use Rattle.ticket_items.specs.declared.marks.Marks.{Marks}
use Rattle.ticket_items.specs.declared.node_row.NodeRow.{NodeRow}
use Rattle.ticket_items.specs.declared.res_mark.ResMark.{ResMark}
use Rattle.ticket_items.specs.declared.resource.Resource.{Resource}
use Rattle.json_items.specs.TicketDraft.{RawRow}
use Rattle.json_items.specs.Resources.{MarkedResource}
use Rattle.json_items.specs.Shown.{nothing_shown}
use Rattle.json_items.specs.declared.resources.shown_form.Showing.{Showing}

-- the marks of a ticket of which nothing is out
abbrev pub no_marks : Marks
no_marks = record { nodes = []; resources = [] }

-- the Status that a node shows: `Spawned` if it is marked (JDF 1.5, 4.4), else its own
abbrev pub shown_status : Marks → NodeRow → List ℕ
shown_status marks r = if mem r.id marks.nodes then codes "Spawned" else r.status

-- the mark of a resource: the first of its id
abbrev pub mark_of : List ResMark → List ℕ → Option ResMark
mark_of marks x = find (λ m. bytes_eq m.id x) marks

-- what a mark shows: the original stays free to be changed
abbrev pub showing_by : ResMark → Showing
showing_by mark =
    record { locked = false; spawn_ids = map spawn_text mark.spawn_ids; spawn_status = mark.status }

-- what a resource shows: what its mark does, and nothing without one
abbrev pub showing_of : Marks → Resource → Showing
showing_of marks r = option_map_or showing_by (mark_of marks.resources r.id) nothing_shown

abbrev pub marked_pool : Marks → List Resource → List MarkedResource
marked_pool marks rs = map (λ r. record { resource = r; shown = showing_of marks r }) rs

-- a node with the Status that it shows
abbrev pub marked_node : Marks → NodeRow → NodeRow
marked_node marks r = record r { status = shown_status marks r }

abbrev pub marked_row : Marks → NodeRow → RawRow
marked_row marks r = record { row = marked_node marks r; pool = marked_pool marks r.resources }

abbrev pub marked_rows : Marks → List NodeRow → List RawRow
marked_rows marks rows = map (marked_row marks) rows
