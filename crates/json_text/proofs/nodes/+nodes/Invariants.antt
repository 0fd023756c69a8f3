use Rattle.std.proofs.Common.{◌+◌, ◌-◌, ◌*◌, length}
use Rattle.json_text.proofs.Walks.{IsPrintedSoFar}
use Rattle.json_text.proofs.nodes.+nodes.Given as goal

-- twice the rows that are left, and one more for a node above them
abbrev pub decreases-print_children : goal.decreases-print_children
decreases-print_children l = 2 * (length l.rows.now - l.from)

abbrev pub decreases-print_node : goal.decreases-print_node
decreases-print_node l = 2 * (length l.rows.now - l.from) + 1

abbrev pub invariant-print_children-loop-row : goal.invariant-print_children-loop-row
invariant-print_children-loop-row l = IsPrintedSoFar l.marks l.depth l.rows l.from l.at l.fn.out l.out

abbrev pub decreases-print_children-loop-row : goal.decreases-print_children-loop-row
decreases-print_children-loop-row l = length l.rows - l.at
