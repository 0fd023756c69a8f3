-- The index of a ticket's rows: where each id stands, and how many nodes stand below each node.
use Rattle.std.specs.Prelude.{◌≡◌, ℕ, suc, ◌+◌, ◌<◌, ◌&&◌, Bool, true, List, [], ◌∷◌, ◌++◌, length}
use Rattle.std.specs.Prelude.{map, if◌then◌else◌, nat_le, Option, Some, None, is_some, slice_get}
use Rattle.std.specs.BTreeMap.{BTreeMap, get}
use Rattle.std.specs.Cmp.Lexicographic.{slice_cmp}
use Rattle.std.specs.List.{find, flat_map, position, position_or_len}
use Rattle.std.specs.Option.{option_map, option_and_then}
use Rattle.std.specs.Ordering.{nat_cmp}
use Rattle.std.specs.Str.{bytes_eq}
use Rattle.ticket_items.specs.Ids.{mem, are_distinct}
use Rattle.ticket_items.specs.declared.node_row.NodeRow.{NodeRow}
use Rattle.ticket_rows.specs.Parents.{AreParents}
use Rattle.ticket_rows.specs.Ticket.{depths}
use Rattle.ticket_rows.specs.declared.index.Index.{Index}
use Rattle.ticket_rows.specs.declared.spot.Spot.{Spot}
use Rattle.ticket_rows.specs.declared.spot.Spot.TheVariants.{OfNode, InPool}

-- what an index tells of a row: its id, its depth, and the ids of the resources of its pool
pub record Shape : Type 0 where
  pub id : List ℕ
  pub depth : ℕ
  pub pool : List (List ℕ)

abbrev pub shape_of : NodeRow → Shape
shape_of r = record { id = r.id; depth = r.depth; pool = map (λ x. x.id) r.resources }

abbrev pub shapes_of : List NodeRow → List Shape
shapes_of rows = map shape_of rows

-- the ids of nodes and resources, in ticket order
abbrev pub ids_in : List Shape → List (List ℕ)
ids_in shapes = flat_map (λ s. s.id ∷ s.pool) shapes

-- ---- where ids stand

-- the place of the node of an id
abbrev pub node_place : List Shape → List ℕ → Option ℕ
node_place shapes x = position (λ s. bytes_eq s.id x) shapes

-- the place of the first node in whose pool an id stands, and where it stands there
abbrev pub home_place : List Shape → List ℕ → Option ℕ
home_place shapes x = position (λ s. mem x s.pool) shapes

abbrev pub pool_place : List Shape → List ℕ → Option ℕ
pool_place shapes x =
    option_and_then (λ s. position (λ y. bytes_eq y x) s.pool) (find (λ s. mem x s.pool) shapes)

-- both
abbrev pub resource_place : List Shape → List ℕ → Option (ℕ × ℕ)
resource_place shapes x =
    option_and_then (λ home. option_map (λ place. (home, place)) (pool_place shapes x))
    (home_place shapes x)

-- a map of spots under ids, and what stands in it under an id
abbrev pub Spots : Type 0
Spots = BTreeMap (List ℕ) Spot

abbrev pub spot_under : Spots → List ℕ → Option Spot
spot_under spots x = get (slice_cmp nat_cmp) spots x

-- the node that a spot names, by how many came before it
abbrev pub node_of : Spot → ℕ
node_of (OfNode node) = node
node_of (InPool home place) = home

-- the place of a node's spot, by the places of the nodes in the order of their coming
abbrev pub node_at : List ℕ → Spot → Option ℕ
node_at places (OfNode node) = slice_get places node
node_at places (InPool home place) = None

-- the place of the home of a resource's spot, and its place in the pool
abbrev pub resource_at : List ℕ → Spot → Option (ℕ × ℕ)
resource_at places (OfNode node) = None
resource_at places (InPool home place) = option_map (λ k. (k, place)) (slice_get places home)

-- under each id that stands in rows, and under no other, a spot by which it is found, where nodes
-- have these places, in the order of their coming
pub record Finds (shapes : List Shape) (spots : Spots) (places : List ℕ) : Type 0 where
  pub ids : (x : List ℕ) → is_some (spot_under spots x) ≡ mem x (ids_in shapes)
  pub nodes : (x : List ℕ)
      → option_and_then (node_at places) (spot_under spots x) ≡ node_place shapes x
  pub resources : (x : List ℕ)
      → option_and_then (resource_at places) (spot_under spots x) ≡ resource_place shapes x
  pub came : (x : List ℕ) (s : Spot) → spot_under spots x ≡ Some s → node_of s < length places
  pub within : (n k : ℕ) → slice_get places n ≡ Some k → k < length shapes
  pub count : length places ≡ length shapes

-- whether each id stands once; and if so, each is found
pub record Tells (shapes : List Shape) (distinct : Bool) (spots : Spots) (places : List ℕ)
    : Type 0 where
  pub told : distinct ≡ are_distinct (ids_in shapes)
  pub found : distinct ≡ true → Finds shapes spots places

-- ---- how many stand below

-- for each depth how many greater ones follow, up to the first that isn't greater
abbrev pub runs_of : List ℕ → List ℕ
runs_of [] = []
runs_of (d ∷ ds) = position_or_len (λ e. nat_le e d) ds ∷ runs_of ds

-- ---- an index of rows

pub record IsIndex (rows : List NodeRow) (index : Index) : Type 0 where
  pub finds : Finds (shapes_of rows) index.spots index.places.items
  pub parents : AreParents (runs_of (depths rows)) index.places.items index.parents.items
  pub runs : index.runs.items ≡ runs_of (depths rows)

-- ---- what becomes of places and runs with a new row

-- a place, where one more stands at another
abbrev pub shifted_place : ℕ → ℕ → ℕ
shifted_place from place = if nat_le from place then suc place else place

-- how many stand below the row at k, with one more below the row at a place: the rows at which that
-- one stands below are that row, and those in front of it whose run has it
abbrev pub longer_run : ℕ → ℕ → ℕ → ℕ
longer_run place k run = if nat_le k place && nat_le place (k + run) then suc run else run

-- an id more in a pool
abbrev pub with_more : List ℕ → Shape → Shape
with_more x s = record s { pool = s.pool ++ x ∷ [] }

-- two indexes tell the same
pub record AreAlike (a b : Index) : Type 0 where
  pub spots : (x : List ℕ) → spot_under b.spots x ≡ spot_under a.spots x
  pub places : b.places.items ≡ a.places.items
  pub parents : b.parents.items ≡ a.parents.items
  pub runs : b.runs.items ≡ a.runs.items
