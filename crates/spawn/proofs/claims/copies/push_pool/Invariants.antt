use Rattle.std.proofs.Common.{◌≡◌, ◌++◌, ◌&&◌, not, ℕ, Bool, List, take}
use Rattle.std.specs.List.{filter}
use Rattle.ticket_items.specs.Resource.{resource_ids}
use Rattle.spawn.specs.IdSet.{IsSetOf}
use Rattle.spawn.proofs.claims.copies.push_pool.Given as goal

-- what was there, and those of the pool so far
abbrev pub invariant-loop-resource : goal.invariant-loop-resource
invariant-loop-resource l =
    record {
      rw : (f g : List ℕ → Bool) → IsSetOf f l.linked → IsSetOf g l.chosen → l.copies.rw.items ≡ l.fn.copies.rw.items ++ resource_ids (filter (λ x. f x.id && g x.id) (take l.resource-index l.pool));
      ro : (f g : List ℕ → Bool) → IsSetOf f l.linked → IsSetOf g l.chosen → l.copies.ro.items ≡ l.fn.copies.ro.items ++ filter (λ x. f x.id && not (g x.id)) (take l.resource-index l.pool);
    }
