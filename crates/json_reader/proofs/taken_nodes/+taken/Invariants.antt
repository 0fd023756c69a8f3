use Rattle.std.proofs.Common.{◌+◌, ◌*◌, length, map}
use Rattle.serde_json.specs.Data.{depth, items_depth}
use Rattle.serde_json.specs.View.{items_of}
use Rattle.json_source.specs.Tree.{tree_data}
use Rattle.json_reader.proofs.Gathering.{IsFinding}
use Rattle.json_reader.specs.Found.{IsFound}
use Rattle.json_reader.proofs.taken_nodes.+taken.Given as goal

-- twice how deep a tree nests, and one more for a node with what is below it, and for a list
abbrev pub decreases-take_node : goal.decreases-take_node
decreases-take_node l = 2 * depth (tree_data l.tree) + 1

abbrev pub decreases-take_below : goal.decreases-take_below
decreases-take_below l = 2 * depth (tree_data l.tree)

abbrev pub decreases-take_list : goal.decreases-take_list
decreases-take_list l = 2 * depth (tree_data l.tree) + 1

abbrev pub decreases-take_children : goal.decreases-take_children
decreases-take_children l = 2 * items_depth (items_of (map tree_data l.children.items)) + 2

-- what is found of the children from here on is found of all
abbrev pub invariant-take_children-loop-child : goal.invariant-take_children-loop-child
invariant-take_children-loop-child l = IsFinding IsFound tree_data l.depth l.fn.children.items (length l.yielded) l.fn.found l.found
