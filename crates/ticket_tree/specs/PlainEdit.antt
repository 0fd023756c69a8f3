-- The edits of the plain ticket: of its places, and of its rows by id.
use Rattle.std.specs.Prelude.{ℕ, ◌++◌, Bool, false, List, [], ◌∷◌, length, map, nat_lt}
use Rattle.std.specs.Prelude.{if◌then◌else◌, Option, Some, is_some}
use Rattle.std.specs.Option.{option_map, option_map_or}
use Rattle.std.specs.Str.{bytes_eq}
use Rattle.ticket_items.specs.Act.{Act, NodeChange, ResourceChange, NodeAddition, act_of}
use Rattle.ticket_items.specs.Act.{act_target}
use Rattle.ticket_items.specs.Act.{Change, status_after, attrs_after, audits_after}
use Rattle.ticket_items.specs.Act.{NewNode, NewResource, NewLink}
use Rattle.ticket_rows.specs.Edit.{behind_last}
use Rattle.ticket_rows.specs.EditRefusal.{Lookups, edit_refusal}
use Rattle.ticket_rows.specs.Place.{Place, Thing, node, resource, Row, place_at, nodes_in}
use Rattle.ticket_rows.specs.Place.{resources_in, below, is_below, home, home_at, resource_place}
use Rattle.ticket_rows.specs.Place.{resource_row}
use Rattle.ticket_rows.specs.Ticket.{max_depth}
use Rattle.ticket_items.specs.declared.edit.Edit.{Edit}
use Rattle.ticket_items.specs.declared.link.Link.{Link}
use Rattle.ticket_items.specs.declared.refusal.Refusal.{Refusal}

-- ---- what an edit is refused for

-- whether an id stands at a place
abbrev pub stands : List Place → List ℕ → Bool
stands tree x = is_some (place_at tree x)

-- whether the path of a child of the node is no longer than 32
abbrev pub has_room_below : List Place → List ℕ → Bool
has_room_below tree n =
    option_map_or (λ p. nat_lt (length p.path) max_depth) (place_at (nodes_in tree) n) false

-- whether the home of a resource is the node or above it
abbrev pub is_home_above : List Place → List ℕ → List ℕ → Bool
is_home_above tree n x =
    option_map_or (is_below (nodes_in tree) n) (home (resources_in tree) x) false

-- what places are asked before an edit
abbrev pub plain_lookups : List Place → Lookups
plain_lookups tree =
    record {
      has_node = stands (nodes_in tree);
      has_resource = stands (resources_in tree);
      has_id = stands tree;
      has_room = has_room_below tree;
      reaches = is_home_above tree;
    }

-- why an edit is refused, if it is
abbrev pub plain_refusal : Edit → List Place → Option Refusal
plain_refusal e tree = edit_refusal e (plain_lookups tree)

-- ---- what it makes of the places

-- the path of a node
abbrev pub path_at : List Place → List ℕ → List (List ℕ)
path_at tree n = option_map_or (λ p. p.path) (place_at (nodes_in tree) n) []

-- whether the node stands at the place, or in its pool what stands there
abbrev pub is_at : List ℕ → Place → Bool
is_at n p = option_map_or (λ h. bytes_eq h n) (home_at p) false

-- a node with one link more
abbrev pub with_link : Link → Thing → Thing
with_link link (node kind job_part links) = node kind job_part (links ++ link ∷ [])
with_link link (resource name class) = resource name class

-- the places after an act
abbrev pub act_places : Act → List Place → List Place
act_places (NodeAddition n (NewNode new)) tree =
    behind_last (below n)
    (record { id = new.id; path = new.id ∷ path_at tree n; thing = node new.kind new.job_part [] })
    tree
act_places (NodeAddition n (NewResource x)) tree =
    behind_last (is_at n) (resource_place (path_at tree n) x) tree
act_places (NodeAddition n (NewLink link)) tree =
    map
    (λ (p : Place). if bytes_eq p.id n then record p { thing = with_link link p.thing } else p) tree
act_places a tree = tree

abbrev pub plain_places : Edit → List Place → List Place
plain_places e tree = act_places (act_of e) tree

-- ---- what it makes of the rows by id

-- a row after a change of it at a time. A resource has no audits
abbrev pub changed_row : Change → ℕ → Row → Row
changed_row change at r =
    record {
      status = status_after change r.status;
      attrs = attrs_after change r.attrs;
      audits = audits_after change at r.audits;
    }

abbrev pub changed_resource_row : Change → Row → Row
changed_resource_row change r =
    record r { status = status_after change r.status; attrs = attrs_after change r.attrs }

-- what an act at a time makes of the row that it changes
abbrev pub act_row : Act → ℕ → Row → Row
act_row (NodeChange n change) at r = changed_row change at r
act_row (ResourceChange x change) at r = changed_resource_row change r
act_row (NodeAddition n addition) at r = r

abbrev pub plain_changed : Edit → ℕ → Row → Row
plain_changed e at r = act_row (act_of e) at r

-- the rows by id, with f of the row of one id
abbrev pub with_row_changed : List ℕ → (Row → Row) → (List ℕ → Option Row) → List ℕ → Option Row
with_row_changed x f rows y = if bytes_eq x y then option_map f (rows y) else rows y

-- the rows by id, with one more
abbrev pub with_line : List ℕ → Row → (List ℕ → Option Row) → List ℕ → Option Row
with_line x row rows y = if bytes_eq x y then Some row else rows y

-- the row that is known, or else the other
abbrev pub or_row : Option Row → Option Row → Option Row
or_row known other = option_map_or Some known other

-- the rows by id after an act at a time
abbrev pub act_rows_by_id : Act → ℕ → (List ℕ → Option Row) → List ℕ → Option Row
act_rows_by_id (NodeAddition n (NewNode new)) at rows =
    with_line new.id (record { status = new.status; attrs = []; audits = [] }) rows
act_rows_by_id (NodeAddition n (NewResource x)) at rows = with_line x.id (resource_row x) rows
act_rows_by_id a at rows = with_row_changed (act_target a) (act_row a at) rows

abbrev pub plain_rows : Edit → ℕ → (List ℕ → Option Row) → List ℕ → Option Row
plain_rows e at rows = act_rows_by_id (act_of e) at rows
