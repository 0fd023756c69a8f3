use Rattle.std.proofs.Common.{◌+◌, ◌<◌}
use Rattle.ticket_rows.specs.Parents.{EndBefore}
use Rattle.ticket_rows.proofs.runs.parent_of.Given as goal

-- all between the one that is looked at and the node end in front of that
abbrev pub invariant-loop-above : goal.invariant-loop-above
invariant-loop-above l = (l.above < l.node) × EndBefore l.runs (l.above + 1) l.node

abbrev pub decreases-loop-above : goal.decreases-loop-above
decreases-loop-above l = l.above
