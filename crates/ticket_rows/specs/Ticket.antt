-- A ticket by its rows: a job id, and each node with its depth, in preorder.
use Rattle.std.specs.Prelude.{◌≡◌, ℕ, Bool, true, not, List, [], ◌∷◌, map, codes, nat_le}
use Rattle.std.specs.Prelude.{Option, is_some}
use Rattle.std.specs.List.{find, flat_map, list_all}
use Rattle.std.specs.Str.{bytes_eq}
pub use Rattle.ticket_items.specs.FirstFault.{first_of, unless}
use Rattle.ticket_items.specs.Ids.{are_distinct}
use Rattle.ticket_rows.specs.Outline.{is_outline}
use Rattle.ticket_rows.specs.Place.{are_links_above, places, resource_places}
use Rattle.ticket_items.specs.declared.node_row.NodeRow.{NodeRow}
use Rattle.ticket_items.specs.declared.refusal.Refusal.{Refusal}
use Rattle.ticket_items.specs.declared.refusal.Refusal.TheVariants.{NotATree, ReservedStatus}
use Rattle.ticket_items.specs.declared.refusal.Refusal.TheVariants.{DuplicateId, TooDeep}
use Rattle.ticket_items.specs.declared.refusal.Refusal.TheVariants.{UnresolvedLink}

-- a job as its ticket tells it: the job's id, and the nodes in preorder
pub record Job : Type 0 where
  pub job_id : List ℕ
  pub rows : List NodeRow

abbrev pub depths : List NodeRow → List ℕ
depths rows = map (λ r. r.depth) rows

-- the ids of the nodes
abbrev pub node_ids : List NodeRow → List (List ℕ)
node_ids rows = map (λ r. r.id) rows

-- the id of a node, and those of the resources of its pool
abbrev pub ids_of : NodeRow → List (List ℕ)
ids_of r = r.id ∷ map (λ x. x.id) r.resources

-- the ids that stand in a ticket, of nodes and resources, in ticket order
abbrev pub ids : List NodeRow → List (List ℕ)
ids rows = flat_map ids_of rows

-- the row of a node
abbrev pub row_of : List NodeRow → List ℕ → Option NodeRow
row_of rows x = find (λ r. bytes_eq r.id x) rows

abbrev pub has_node : List NodeRow → List ℕ → Bool
has_node rows x = is_some (row_of rows x)

-- the Status that a spawned node shows, and that no node has (JDF 1.5, 4.4)
abbrev pub is_reserved : List ℕ → Bool
is_reserved status = bytes_eq status (codes "Spawned")

abbrev pub max_depth : ℕ
max_depth = 32

-- what makes rows a ticket
abbrev pub are_unreserved : List NodeRow → Bool
are_unreserved rows = list_all (λ r. not (is_reserved r.status)) rows

abbrev pub are_shallow : List NodeRow → Bool
are_shallow rows = list_all (λ r. nat_le r.depth max_depth) rows

-- whether each link names a resource whose home is the linking node or above it (JDF 1.5, 3.9)
abbrev pub are_resolved : List NodeRow → Bool
are_resolved rows = list_all (are_links_above (resource_places rows)) (places rows)

-- rows that are a ticket: a tree, no node's Status is `Spawned`, each id stands once, no node is
-- deeper than 32, and each link is resolved
pub record IsValid (rows : List NodeRow) : Type 0 where
  pub tree : is_outline (depths rows) ≡ true
  pub unreserved : are_unreserved rows ≡ true
  pub distinct : are_distinct (ids rows) ≡ true
  pub shallow : are_shallow rows ≡ true
  pub resolved : are_resolved rows ≡ true

-- what is wrong with rows, the first in this order
abbrev pub fault_of : List NodeRow → Option Refusal
fault_of rows =
    first_of
    (unless (is_outline (depths rows)) NotATree ∷ unless (are_unreserved rows) ReservedStatus
    ∷ unless (are_distinct (ids rows)) DuplicateId ∷ unless (are_shallow rows) TooDeep
    ∷ unless (are_resolved rows) UnresolvedLink ∷ [])
