-- The edits of a ticket, on its rows: what each is refused for, and what it does.
use Rattle.std.specs.Prelude.{ℕ, suc, ◌&&◌, Bool, false, not, ◌++◌, List, [], ◌∷◌, map}
use Rattle.std.specs.Prelude.{if◌then◌else◌, nat_lt, Option}
use Rattle.std.specs.List.{list_any}
use Rattle.std.specs.Option.{option_map_or}
use Rattle.std.specs.Str.{bytes_eq}
use Rattle.ticket_items.specs.Act.{Act, NodeChange, ResourceChange, NodeAddition, act_of}
use Rattle.ticket_items.specs.Act.{Change, status_after, attrs_after, audits_after}
use Rattle.ticket_items.specs.Act.{NewNode, NewResource, NewLink}
use Rattle.ticket_rows.specs.Homes.{has_resource, home_of}
use Rattle.ticket_items.specs.Ids.{mem}
use Rattle.ticket_rows.specs.Place.{is_below, node_places}
use Rattle.ticket_items.specs.Resource.{with_item}
use Rattle.ticket_rows.specs.EditRefusal.{Lookups, edit_refusal, no_node, no_resource}
use Rattle.ticket_rows.specs.Ticket.{Job, has_node, ids, max_depth, row_of}
use Rattle.ticket_items.specs.declared.edit.Edit.{Edit}
use Rattle.ticket_items.specs.declared.node_row.NodeRow.{NodeRow}
use Rattle.ticket_items.specs.declared.refusal.Refusal.{Refusal}
use Rattle.ticket_items.specs.declared.resource.Resource.{Resource}

-- ---- what an edit is refused for

-- whether a child of the node stands no deeper than 32
abbrev pub has_room : List NodeRow → List ℕ → Bool
has_room rows node = option_map_or (λ r. nat_lt r.depth max_depth) (row_of rows node) false

-- whether a resource is at home at the node or above it
abbrev pub reaches : List NodeRow → List ℕ → List ℕ → Bool
reaches rows node x = option_map_or (is_below (node_places rows) node) (home_of rows x) false

-- what rows are asked before an edit
abbrev pub lookups : List NodeRow → Lookups
lookups rows =
    record {
      has_node = has_node rows;
      has_resource = has_resource rows;
      has_id = λ x. mem x (ids rows);
      has_room = has_room rows;
      reaches = reaches rows;
    }

-- why an edit is refused, if it is
abbrev pub refusal_of : Edit → List NodeRow → Option Refusal
refusal_of e rows = edit_refusal e (lookups rows)

-- why a call that names a node, or a resource, is refused, if it is
abbrev pub node_refusal : List ℕ → List NodeRow → Option Refusal
node_refusal node rows = no_node node (lookups rows)

abbrev pub resource_refusal : List ℕ → List NodeRow → Option Refusal
resource_refusal resource rows = no_resource resource (lookups rows)

-- ---- what an edit does

-- the rows, with f of each row of that id
abbrev pub with_row : List ℕ → (NodeRow → NodeRow) → List NodeRow → List NodeRow
with_row x f rows = map (λ (r : NodeRow). if bytes_eq r.id x then f r else r) rows

-- the rows, with f of each resource of that id
abbrev pub with_resource : List ℕ → (Resource → Resource) → List NodeRow → List NodeRow
with_resource x f rows =
    map (λ (r : NodeRow). record r { resources = with_item x f r.resources }) rows

-- a list, with a new one behind the last that passes, and last where none does
abbrev pub behind_last : {X : Type 0} → (X → Bool) → X → List X → List X
behind_last p new [] = new ∷ []
behind_last p new (x ∷ xs) =
    if p x && not (list_any p xs) then x ∷ new ∷ xs else x ∷ behind_last p new xs

-- how deep a node stands
abbrev pub depth_of : List NodeRow → List ℕ → ℕ
depth_of rows x = option_map_or (λ r. r.depth) (row_of rows x) 0

-- the rows, with a new one as the last child of the node of that id, one deeper than it: behind the
-- last that stands below it
abbrev pub with_child : List ℕ → (ℕ → NodeRow) → List NodeRow → List NodeRow
with_child x new rows =
    behind_last (λ r. is_below (node_places rows) r.id x) (new (suc (depth_of rows x))) rows

-- a node at a depth, with no attributes, pools or audits
abbrev pub bare_row : List ℕ → List ℕ → List ℕ → List ℕ → ℕ → NodeRow
bare_row id kind job_part status depth =
    record {
      id = id;
      depth = depth;
      kind = kind;
      job_part = job_part;
      status = status;
      attrs = [];
      resources = [];
      links = [];
      audits = [];
    }

-- a node after a change at a time, and a resource, which has no audits
abbrev pub changed_node : Change → ℕ → NodeRow → NodeRow
changed_node change at r =
    record r {
      status = status_after change r.status;
      attrs = attrs_after change r.attrs;
      audits = audits_after change at r.audits;
    }

abbrev pub changed_resource : Change → Resource → Resource
changed_resource change y =
    record y { status = status_after change y.status; attrs = attrs_after change y.attrs }

-- the rows after an act at a time that isn't refused
abbrev pub act_rows : Act → ℕ → List NodeRow → List NodeRow
act_rows (NodeChange node change) at rows = with_row node (changed_node change at) rows
act_rows (ResourceChange resource change) at rows =
    with_resource resource (changed_resource change) rows
act_rows (NodeAddition node (NewNode new)) at rows =
    with_child node (bare_row new.id new.kind new.job_part new.status) rows
act_rows (NodeAddition node (NewResource x)) at rows =
    with_row node (λ (r : NodeRow). record r { resources = r.resources ++ x ∷ [] }) rows
act_rows (NodeAddition node (NewLink link)) at rows =
    with_row node (λ (r : NodeRow). record r { links = r.links ++ link ∷ [] }) rows

-- and after an edit
abbrev pub edited_rows : Edit → ℕ → List NodeRow → List NodeRow
edited_rows e at rows = act_rows (act_of e) at rows

-- the ticket after an edit that isn't refused
abbrev pub job_after_edit : Edit → ℕ → Job → Job
job_after_edit e at t = record t { rows = edited_rows e at t.rows }
