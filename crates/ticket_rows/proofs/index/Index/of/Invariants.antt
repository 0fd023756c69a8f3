use Rattle.std.proofs.Common.{true, take}
use Rattle.ticket_rows.specs.Index.{Tells, shapes_of}
use Rattle.ticket_rows.specs.Labels.{numbers_below}
use Rattle.ticket_rows.proofs.index.Index.of.Given as goal

-- the rows so far are in, where each stands where it came
abbrev pub invariant-loop-node : goal.invariant-loop-node
invariant-loop-node l = Tells (shapes_of (take l.node l.rows)) true l.spots (numbers_below l.node)
