-- What the text of a ticket is made of, row by row.
use Rattle.std.specs.Prelude.{◌≡◌, ◌<◌, ◌≤◌, ◌+◌, ℕ, Bool, false, List, [], ◌∷◌, drop, length}
use Rattle.std.specs.Prelude.{nat_lt}
use Rattle.serde_json.specs.Data.{Data, Items, Members}
use Rattle.ticket_items.specs.declared.marks.Marks.{Marks}
use Rattle.ticket_items.specs.declared.node_row.NodeRow.{NodeRow}
use Rattle.json_text.specs.Marked.{marked_node, marked_pool, marked_row, marked_rows}
use Rattle.json_text.specs.Written.{Tree, children, last_members, node_data, pool_data}
use Rattle.json_text.specs.Written.{trees_behind}
use Rattle.json_text.specs.Written.{trees}

-- whether the row in front stands deeper
abbrev pub is_front_deeper : ℕ → List NodeRow → Bool
is_front_deeper depth [] = false
is_front_deeper depth (r ∷ rows) = nat_lt depth r.depth

-- what stands behind the children of a node of a ticket that shows these marks
abbrev pub shown_last : Marks → NodeRow → Members
shown_last marks r = last_members (marked_node marks r) (pool_data (marked_pool marks r.resources))

-- the trees of the rows of a ticket that shows these marks
abbrev pub shown_trees : Marks → List NodeRow → List Tree
shown_trees marks rows = trees (marked_rows marks rows)

-- the nodes in front that stand deeper, each with all below it
abbrev pub shown_children : Marks → ℕ → List NodeRow → Items
shown_children marks depth rows = children depth (shown_trees marks rows)

-- a node with all below it, which stands in front of these rows
abbrev pub shown_node : Marks → NodeRow → List NodeRow → Data
shown_node marks r rows = node_data (marked_row marks r) (shown_children marks r.depth rows)

-- the row at an index stands deeper
pub record IsDeeperAt (depth : ℕ) (rows : List NodeRow) (at : ℕ) (row : NodeRow) : Type 0 where
  pub within : at < length rows
  pub is : drop at rows ≡ row ∷ drop (at + 1) rows
  pub deeper : depth < row.depth

-- the index is behind the rows from another on that stand deeper
pub record IsBehindDeeper (marks : Marks) (depth : ℕ) (rows : List NodeRow) (from end : ℕ)
    : Type 0 where
  pub trees : shown_trees marks (drop end rows) ≡ trees_behind depth (shown_trees marks (drop from rows))
  pub forward : from ≤ end
