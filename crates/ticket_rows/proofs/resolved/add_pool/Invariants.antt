use Rattle.std.proofs.Common.{◌≡◌, ℕ, List, take}
use Rattle.ticket_rows.specs.HomeTable.{home_in, or_here}
use Rattle.ticket_items.specs.Ids.{mem}
use Rattle.ticket_items.specs.Resource.{resource_ids}
use Rattle.ticket_rows.proofs.resolved.add_pool.Given as goal

-- the resources so far are in the table, each at this node unless it was there
abbrev pub invariant-loop-resource : goal.invariant-loop-resource
invariant-loop-resource l =
    (x : List ℕ) → home_in l.homes x ≡ or_here (mem x (resource_ids (take l.resource-index l.pool))) l.home (home_in l.fn.homes x)
