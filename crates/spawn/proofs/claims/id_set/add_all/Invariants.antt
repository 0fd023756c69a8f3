use Rattle.std.proofs.Common.{◌||◌, ℕ, Bool, List, take}
use Rattle.ticket_items.specs.Ids.{mem}
use Rattle.spawn.specs.IdSet.{IsSetOf}
use Rattle.spawn.proofs.claims.id_set.add_all.Given as goal

-- what was in it, and the ids so far
abbrev pub invariant-loop-id : goal.invariant-loop-id
invariant-loop-id l = (f : List ℕ → Bool) → IsSetOf f l.fn.set → IsSetOf (λ x. f x || mem x (take l.id-index l.ids)) l.set
