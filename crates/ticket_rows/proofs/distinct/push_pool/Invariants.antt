use Rattle.std.proofs.Common.{◌≡◌, ◌++◌, map, take}
use Rattle.ticket_items.specs.Resource.{resource_ids}
use Rattle.ticket_rows.proofs.distinct.push_pool.Given as goal

-- the ids of the resources so far
abbrev pub invariant-loop-resource : goal.invariant-loop-resource
invariant-loop-resource l =
    map (λ s. s.now) l.ids.items ≡ map (λ s. s.now) l.fn.ids.items ++ resource_ids (take l.resource-index l.pool)
