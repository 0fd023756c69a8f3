-- What came so far was delayed before.
use Rattle.std.proofs.Common.{length}
use Rattle.cells.specs.Calls.{Goes}
use Rattle.cells.specs.Scripted.{view_of}
use Rattle.cells.proofs.scripted_cell.ScriptedCell.land.Given as goal

abbrev pub invariant-loop-self : goal.invariant-loop-self
invariant-loop-self l = Goes (view_of l.fn.self) (view_of l.self)

abbrev pub decreases-loop-self : goal.decreases-loop-self
decreases-loop-self l = length l.self.delayed
