use Rattle.std.proofs.Common.{◌+◌, ◌*◌}
use Rattle.serde_json.specs.Data.{depth}
use Rattle.json_reader.proofs.Gathering.{IsFinding}
use Rattle.json_reader.specs.Found.{IsFound}
use Rattle.json_reader.proofs.found_nodes.+found.Given as goal

-- twice how deep a value nests, and one more for a node with what is below it
abbrev pub decreases-find_node : goal.decreases-find_node
decreases-find_node g l = 2 * depth (g.S.Source.content l.value.now) + 1

abbrev pub decreases-find_below : goal.decreases-find_below
decreases-find_below g l = 2 * depth (g.S.Source.content l.value.now)

abbrev pub decreases-find_children : goal.decreases-find_children
decreases-find_children g l = 2 * depth (g.S.Source.content l.value.now)

-- what is found of the children from here on is found of all
abbrev pub invariant-find_children-loop-child : goal.invariant-find_children-loop-child
invariant-find_children-loop-child g l = IsFinding IsFound g.S.Source.content l.depth l.children l.child-index l.fn.found l.found
