use Rattle.std.proofs.Common.{◌≡◌, drop}
use Rattle.merge.specs.InOrder.{rest_behind}
use Rattle.merge.proofs.in_order.rest_behind.Given as goal

-- what is left is left behind those that come
abbrev pub invariant-loop-resource : goal.invariant-loop-resource
invariant-loop-resource g l = rest_behind g.T.OfResource.is_of (drop l.resource-index l.pool) l.left ≡ rest_behind g.T.OfResource.is_of l.pool l.items
