-- The plain ticket, read off the rows: where each node and each resource stands, and what of it may
-- change, by its id.
use Rattle.std.specs.Prelude.{◌≡◌, ℕ, zero, suc, ◌-◌, ◌≤◌, ◌&&◌, Bool, true, false, not, List, []}
use Rattle.std.specs.Prelude.{◌∷◌, ◌++◌, length, drop, map, nat_le, nat_lt, Option, Some, slice_get}
use Rattle.std.specs.List.{find, filter, flat_map, list_all}
use Rattle.std.specs.Option.{option_map, option_and_then, option_map_or}
use Rattle.std.specs.Str.{bytes_eq}
use Rattle.ticket_items.specs.Attrs.{Pairs}
use Rattle.ticket_items.specs.Ids.{mem}
use Rattle.ticket_items.specs.declared.audit.Audit.{Audit}
use Rattle.ticket_items.specs.declared.link.Link.{Link}
use Rattle.ticket_items.specs.declared.node_row.NodeRow.{NodeRow}
use Rattle.ticket_items.specs.declared.resource.Resource.{Resource}

-- what stands at a place, and what of it never changes but by a new link: a node's Type, job part
-- and links, or a resource's name and Class
pub data Thing : Type 0 where
  node : List ℕ → List ℕ → List Link → Thing
  resource : List ℕ → List ℕ → Thing

-- where a node or a resource stands: a node's path leads to the root, a resource has its home's
pub record Place : Type 0 where
  pub id : List ℕ
  pub path : List (List ℕ)
  pub thing : Thing

-- what of a node or a resource may change. A resource has no audits
pub record Row : Type 0 where
  pub status : List ℕ
  pub attrs : Pairs
  pub audits : List Audit

-- the last n of a list
abbrev pub last_of : {X : Type 0} → ℕ → List X → List X
last_of n xs = drop (length xs - n) xs

-- the path of a row: itself, and the last depth - 1 ids of the path of the row before it, which
-- lead from its parent to the root
abbrev pub path_of : List (List ℕ) → NodeRow → List (List ℕ)
path_of before r = r.id ∷ last_of (r.depth - 1) before

-- what of a node no worker may change: its Type, its part of the job and its links
abbrev pub node_thing : NodeRow → Thing
node_thing r = node r.kind r.job_part r.links

-- what of a resource no worker may change: its name and Class
abbrev pub resource_thing : Resource → Thing
resource_thing x = resource x.name x.class

-- a resource by its id and that, and the same of what stands at a place
abbrev pub named_thing : Resource → List ℕ × Thing
named_thing x = (x.id, resource_thing x)

abbrev pub named_thing_at : Place → List ℕ × Thing
named_thing_at p = (p.id, p.thing)

abbrev pub node_place : NodeRow → List (List ℕ) → Place
node_place r path = record { id = r.id; path = path; thing = node_thing r }

abbrev pub resource_place : List (List ℕ) → Resource → Place
resource_place path x = record { id = x.id; path = path; thing = resource_thing x }

-- a node and the resources of its pool
abbrev pub places_of : NodeRow → List (List ℕ) → List Place
places_of r path = node_place r path ∷ map (resource_place path) r.resources

abbrev pub places_from : List (List ℕ) → List NodeRow → List Place
places_from before [] = []
places_from before (r ∷ rows) =
    places_of r (path_of before r) ++ places_from (path_of before r) rows

-- the places of a ticket, in ticket order
abbrev pub places : List NodeRow → List Place
places rows = places_from [] rows

abbrev pub is_node_thing : Thing → Bool
is_node_thing (node kind job_part links) = true
is_node_thing (resource name class) = false

abbrev pub is_node : Place → Bool
is_node p = is_node_thing p.thing

-- the places of the nodes alone, and of the resources alone
abbrev pub nodes_in : List Place → List Place
nodes_in tree = filter is_node tree

abbrev pub resources_in : List Place → List Place
resources_in tree = filter (λ p. not (is_node p)) tree

abbrev pub node_places : List NodeRow → List Place
node_places rows = nodes_in (places rows)

abbrev pub resource_places : List NodeRow → List Place
resource_places rows = resources_in (places rows)

-- the place of an id
abbrev pub place_at : List Place → List ℕ → Option Place
place_at tree x = find (λ p. bytes_eq p.id x) tree

-- whether what stands at the place is the node n or below it
abbrev pub below : List ℕ → Place → Bool
below n p = mem n p.path

-- whether a is b or below it. An unknown id is below none, and nothing is below it
abbrev pub is_below : List Place → List ℕ → List ℕ → Bool
is_below tree a b = option_map_or (below b) (place_at tree a) false

-- the parent of what stands at the place
abbrev pub parent : Place → Option (List ℕ)
parent p = slice_get p.path 1

-- the parent of a node
abbrev pub up : List Place → List ℕ → Option (List ℕ)
up tree n = option_and_then parent (place_at tree n)

-- whether n is the parent of what stands at the place
abbrev pub is_child_of : List ℕ → Place → Bool
is_child_of n p = option_map_or (λ u. bytes_eq u n) (parent p) false

-- the children of a node, in order
abbrev pub kids : List Place → List ℕ → List (List ℕ)
kids tree n = map (λ p. p.id) (filter (is_child_of n) tree)

-- the nodes below n in preorder, as far as this many levels go
abbrev pub preorder : ℕ → List Place → List ℕ → List (List ℕ)
preorder zero tree n = []
preorder (suc levels) tree n = n ∷ flat_map (preorder levels tree) (kids tree n)

-- the rows from `from` up to `to` are those of the nodes below x, x the first of them
pub record BoundsNodesBelow (rows : List NodeRow) (x : List ℕ) (from to : ℕ) : Type 0 where
  pub node : option_map (λ r. r.id) (slice_get rows from) ≡ Some x
  pub end : to ≤ length rows
  pub exact : (k : ℕ) (p : Place) → slice_get (node_places rows) k ≡ Some p
      → below x p ≡ (nat_le from k && nat_lt k to)

-- ---- resources and links

-- the node that stands at the place, or in whose pool what stands there is: the first of the path
abbrev pub home_at : Place → Option (List ℕ)
home_at p = slice_get p.path 0

-- the home of a resource
abbrev pub home : List Place → List ℕ → Option (List ℕ)
home resources x = option_and_then home_at (place_at resources x)

abbrev pub links_of : Thing → List Link
links_of (node kind job_part links) = links
links_of (resource name class) = []

-- whether each link of what stands at the place names a resource whose home it is, or is below
abbrev pub are_links_above : List Place → Place → Bool
are_links_above resources p =
    list_all (λ l. option_map_or (λ h. below h p) (home resources l.rref) false) (links_of p.thing)

-- ---- what may change

abbrev pub node_row : NodeRow → Row
node_row r = record { status = r.status; attrs = r.attrs; audits = r.audits }

abbrev pub resource_row : Resource → Row
resource_row x = record { status = x.status; attrs = x.attrs; audits = [] }

-- the rows of a node and of the resources of its pool, by id
abbrev pub rows_by_id_of : NodeRow → List (List ℕ × Row)
rows_by_id_of r = (r.id, node_row r) ∷ map (λ x. (x.id, resource_row x)) r.resources

abbrev pub rows_by_id : List NodeRow → List (List ℕ × Row)
rows_by_id rows = flat_map rows_by_id_of rows

-- the row of an id
abbrev pub row_in : List NodeRow → List ℕ → Option Row
row_in rows x = option_map (λ l. l.1) (find (λ l. bytes_eq l.0 x) (rows_by_id rows))
