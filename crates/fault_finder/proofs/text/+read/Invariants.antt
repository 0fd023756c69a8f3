use Rattle.std.proofs.Common.{◌+◌, ◌*◌, ◌≤◌, length}
use Rattle.fault_finder.proofs.text.+read.Given as goal

-- twice how deep what is read may nest, and one more for what is inside
abbrev pub decreases-read : goal.decreases-read
decreases-read l = 2 * l.depth

abbrev pub decreases-read_items : goal.decreases-read_items
decreases-read_items l = 2 * l.depth + 1

abbrev pub decreases-read_members : goal.decreases-read_members
decreases-read_members l = 2 * l.depth + 1

-- no more is left than was in the beginning
abbrev pub invariant-read_items-loop-alloc : goal.invariant-read_items-loop-alloc
invariant-read_items-loop-alloc l = length l.reader ≤ length l.initial.reader

abbrev pub decreases-read_items-loop-alloc : goal.decreases-read_items-loop-alloc
decreases-read_items-loop-alloc l = length l.reader

abbrev pub invariant-read_members-loop-places : goal.invariant-read_members-loop-places
invariant-read_members-loop-places l = length l.reader ≤ length l.initial.reader

abbrev pub decreases-read_members-loop-places : goal.decreases-read_members-loop-places
decreases-read_members-loop-places l = length l.reader
