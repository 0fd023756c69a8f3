-- The calls that change one row: an audit put at a node, and a node or a resource put in the place
-- of the one of its id.
use Rattle.std.specs.Prelude.{◌≡◌, ℕ, false, List, [], ◌∷◌, ◌++◌, map, Some}
use Rattle.ticket_rows.specs.Edit.{with_row, with_resource}
use Rattle.ticket_rows.specs.Homes.{resource_of}
use Rattle.ticket_rows.specs.Place.{node_thing, resource_thing}
use Rattle.ticket_rows.specs.Ticket.{row_of, is_reserved}
use Rattle.ticket_items.specs.declared.audit.Audit.{Audit}
use Rattle.ticket_items.specs.declared.node_row.NodeRow.{NodeRow}
use Rattle.ticket_items.specs.declared.resource.Resource.{Resource}

-- the rows, with an audit more at a node, behind those that it has
abbrev pub rows_with_audit : List ℕ → Audit → List NodeRow → List NodeRow
rows_with_audit node audit rows = with_row node (λ r. record r { audits = r.audits ++ audit ∷ [] }) rows

-- the rows, with a row in the place of the one of its id, as deep as that one
abbrev pub replaced_node : NodeRow → List NodeRow → List NodeRow
replaced_node row rows = with_row row.id (λ r. record row { depth = r.depth }) rows

-- the rows, with a resource in the place of the one of its id
abbrev pub replaced_resource : Resource → List NodeRow → List NodeRow
replaced_resource x rows = with_resource x.id (λ _. x) rows

-- a row may take the place of the one of its id: nothing differs of what no worker may change, nor
-- do the ids of resources, in their order, and the new Status isn't `Spawned`
pub record MayReplaceNode (rows : List NodeRow) (row : NodeRow) : Type 0 where
  pub old : NodeRow
  pub there : row_of rows row.id ≡ Some old
  pub thing : node_thing row ≡ node_thing old
  pub resources : map (λ x. x.id) row.resources ≡ map (λ x. x.id) old.resources
  pub status : is_reserved row.status ≡ false

-- a resource may take the place of the one of its id: nothing differs of what no worker may change
pub record MayReplaceResource (rows : List NodeRow) (x : Resource) : Type 0 where
  pub old : Resource
  pub there : resource_of rows x.id ≡ Some old
  pub thing : resource_thing x ≡ resource_thing old
