-- Rows and resources of a part, put in the places of those of their ids.
use Rattle.std.specs.Prelude.{◌≡◌, true, List, [], ◌∷◌, map}
use Rattle.std.specs.Option.{option_map_or}
use Rattle.ticket_items.specs.Ids.{are_distinct}
use Rattle.ticket_rows.specs.OneRow.{MayReplaceNode, MayReplaceResource}
use Rattle.ticket_items.specs.Resource.{resource_ids}
use Rattle.ticket_rows.specs.Ticket.{node_ids, row_of}
use Rattle.ticket_items.specs.declared.node_row.NodeRow.{NodeRow}
use Rattle.ticket_items.specs.declared.resource.Resource.{Resource}
use Rattle.merge.specs.Put.{resource_from}

-- a row as it is among these, at its own depth, or as it was
abbrev pub node_from : List NodeRow → NodeRow → NodeRow
node_from new r = option_map_or (λ (x : NodeRow). record x { depth = r.depth }) (row_of new r.id) r

-- the rows, with these in the places of those of their ids
abbrev pub with_nodes : List NodeRow → List NodeRow → List NodeRow
with_nodes new rows = map (node_from new) rows

-- a row, with these resources in the places of those of their ids
abbrev pub pool_from : List Resource → NodeRow → NodeRow
pool_from new r = record r { resources = map (resource_from new) r.resources }

-- the rows, with these resources in the places of those of their ids
abbrev pub with_resources : List Resource → List NodeRow → List NodeRow
with_resources new rows = map (pool_from new) rows

-- each of the new nodes may take the place of the one of its id
abbrev pub EachMayReplaceNode : List NodeRow → List NodeRow → Type 0
EachMayReplaceNode rows [] = Unit {0}
EachMayReplaceNode rows (x ∷ new) = MayReplaceNode rows x × EachMayReplaceNode rows new

-- each of the new resources may take the place of the one of its id
abbrev pub EachMayReplaceResource : List NodeRow → List Resource → Type 0
EachMayReplaceResource rows [] = Unit {0}
EachMayReplaceResource rows (x ∷ new) = MayReplaceResource rows x × EachMayReplaceResource rows new

-- each of these nodes may take the place of the one of its id, and no id stands twice
pub record MayTakeNodes (rows new : List NodeRow) : Type 0 where
  pub each : EachMayReplaceNode rows new
  pub distinct : are_distinct (node_ids new) ≡ true

-- each of these resources may take the place of the one of its id, and no id stands twice
pub record MayTakeResources (rows : List NodeRow) (new : List Resource) : Type 0 where
  pub each : EachMayReplaceResource rows new
  pub distinct : are_distinct (resource_ids new) ≡ true
