use Rattle.spawn.proofs.FirstHolder.{Met, path_behind}
use Rattle.spawn.proofs.tables.holding.before_above.Given as goal

-- the nodes above that were met so far
abbrev pub invariant-loop-place : goal.invariant-loop-place
invariant-loop-place l = Met l.front (path_behind l.node l.initial.depth l.front) l.records l.place l.depth l.free
