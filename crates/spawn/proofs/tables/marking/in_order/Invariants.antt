use Rattle.std.proofs.Common.{◌≡◌, take}
use Rattle.spawn.proofs.tables.marking.in_order.Given as goal

-- the numbers so far
abbrev pub invariant-loop-number : goal.invariant-loop-number
invariant-loop-number l = l.ordered.items ≡ take l.number-index l.numbers
