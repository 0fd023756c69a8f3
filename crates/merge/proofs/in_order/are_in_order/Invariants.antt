use Rattle.std.proofs.Common.{◌≡◌, drop}
use Rattle.spawn.specs.Parts.{resources}
use Rattle.merge.specs.InOrder.{are_met}
use Rattle.merge.proofs.in_order.are_in_order.Given as goal

-- what is left decides
abbrev pub invariant-loop-place : goal.invariant-loop-place
invariant-loop-place g l = are_met g.T.OfResource.is_of (resources (drop l.place l.rows)) l.left ≡ are_met g.T.OfResource.is_of (resources l.rows) l.items
