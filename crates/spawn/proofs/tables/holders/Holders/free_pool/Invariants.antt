use Rattle.std.proofs.Common.{None, take}
use Rattle.ticket_items.specs.Ids.{mem}
use Rattle.ticket_items.specs.Resource.{resource_ids}
use Rattle.spawn.specs.Holdings.{IsGiven}
use Rattle.spawn.proofs.tables.holders.Holders.free_pool.Given as goal

-- the resources so far were taken
abbrev pub invariant-loop-resource : goal.invariant-loop-resource
invariant-loop-resource l = IsGiven (λ x. mem x (resource_ids (take l.resource-index l.pool))) None l.fn.self l.self
