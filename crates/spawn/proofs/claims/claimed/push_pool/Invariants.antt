use Rattle.std.proofs.Common.{◌≡◌, ◌++◌, map, take}
use Rattle.ticket_items.specs.Resource.{resource_ids}
use Rattle.spawn.proofs.claims.claimed.push_pool.Given as goal

-- those so far were added
abbrev pub invariant-loop-resource : goal.invariant-loop-resource
invariant-loop-resource l = map (λ s. s.now) l.all.items ≡ map (λ s. s.now) l.fn.all.items ++ resource_ids (take l.resource-index l.pool)
