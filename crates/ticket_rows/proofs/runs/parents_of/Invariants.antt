use Rattle.std.proofs.Common.{◌≡◌, length}
use Rattle.ticket_rows.specs.Parents.{EachAbove}
use Rattle.ticket_rows.proofs.runs.parents_of.Given as goal

abbrev pub invariant-loop-node : goal.invariant-loop-node
invariant-loop-node l = EachAbove l.runs l.parents.items × (length l.parents.items ≡ l.node)
