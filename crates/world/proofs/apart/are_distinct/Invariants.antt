use Rattle.std.proofs.Common.{◌≡◌, drop}
use Rattle.ticket_items.specs.Ids as ids
use Rattle.world.proofs.apart.are_distinct.Given as goal

-- what is left is distinct exactly if all is
abbrev pub invariant-loop-index : goal.invariant-loop-index
invariant-loop-index l = ids.are_distinct (drop l.index l.names) ≡ ids.are_distinct l.names
