-- What is found of pools, of nodes and of a part's nodes: what may be invalid is judged, and what
-- resources show of spawns is known also where names or texts are invalid.
use Rattle.std.specs.Prelude.{◌≡◌, List, map, Option, Some, Result, Ok, Err}
use Rattle.std.specs.List.{list_all}
use Rattle.ticket_items.specs.declared.node_row.NodeRow.{NodeRow}
use Rattle.ticket_items.specs.declared.refusal.Refusal.{Refusal}
use Rattle.ticket_items.specs.declared.resource.Resource.{Resource}
use Rattle.json_items.specs.Validation.{Finds, first_fault}
use Rattle.json_items.specs.PartDraft.{RowsAndCopies}
use Rattle.json_items.specs.Resources.{resource_has_names, resource_has_texts}
use Rattle.json_items.specs.TicketDraft.{RawRow, are_bare, resources_of}
use Rattle.json_items.specs.TicketForm.{row_has_names, row_has_texts}
use Rattle.json_items.specs.Resources.{MarkedResource}
use Rattle.json_items.specs.declared.resources.shown_form.Showing.{Showing}
use Rattle.json_source.specs.Read.{Fails}
use Rattle.json_reader.specs.Groups.{split_rows}
use Rattle.json_reader.specs.declared.found_nodes.FoundNodes.{FoundNodes}
use Rattle.json_reader.specs.declared.found_pool.FoundPool.{FoundPool}
use Rattle.json_reader.specs.declared.part_groups.GroupSizes.{GroupSizes}

-- what was found is of what is read; or nothing is read, unless memory ran out
abbrev pub FindsAs : {X Y : Type 0} → (X → Y → Type 0) → Result Y Refusal → Option X → Type 0
FindsAs {X = X} is_of (Ok found) read = (x : X) × (read ≡ Some x) × is_of x found
FindsAs is_of (Err e) read = Fails e read

-- ---- resources

-- what resources show of spawns
abbrev pub showings_of : List MarkedResource → List Showing
showings_of pool = map (λ m. m.shown) pool

-- a resource, and what it shows
pub record IsMarked (m : MarkedResource) (found : Result Resource Refusal × Showing) : Type 0 where
  pub resource : Finds (first_fault resource_has_names resource_has_texts) found.0 (Some m.resource)
  pub shown : found.1 ≡ m.shown

-- the resources of a pool, and what each shows
pub record IsPool (pool : List MarkedResource) (found : FoundPool) : Type 0 where
  pub resources : Finds (first_fault (list_all resource_has_names) (list_all resource_has_texts))
      found.resources (Some (resources_of pool))
  pub shown : found.shown ≡ showings_of pool

-- ---- nodes

-- a node, and what its resources show
pub record IsRow (raw : RawRow) (found : Result NodeRow Refusal × List Showing) : Type 0 where
  pub row : Finds (first_fault row_has_names row_has_texts) found.0 (Some raw.row)
  pub pool : raw.row.resources ≡ resources_of raw.pool
  pub shown : found.1 ≡ showings_of raw.pool

-- these nodes, and whether their resources show nothing
pub record IsFound (raws : List RawRow) (found : FoundNodes) : Type 0 where
  pub rows : Finds (first_fault (list_all row_has_names) (list_all row_has_texts)) found.rows
      (Some (map (λ r. r.row) raws))
  pub bare : found.bare ≡ list_all (λ r. are_bare r.pool) raws

-- the nodes of a part with the copies in the root's pool, and how many resources of the root stand
-- in each group
pub record IsTaken (t : RowsAndCopies) (found : Result (List NodeRow) Refusal × GroupSizes) : Type 0 where
  pub rows : List NodeRow
  pub judged : Finds (first_fault (list_all row_has_names) (list_all row_has_texts)) found.0
      (Some rows)
  pub split : t ≡ split_rows found.1 rows
