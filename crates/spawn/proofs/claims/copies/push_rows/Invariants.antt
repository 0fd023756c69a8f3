use Rattle.std.proofs.Common.{◌≡◌, ◌++◌, ◌&&◌, not, ℕ, Bool, List, take}
use Rattle.std.specs.List.{filter}
use Rattle.ticket_items.specs.Resource.{resource_ids}
use Rattle.spawn.specs.IdSet.{IsSetOf}
use Rattle.spawn.specs.Parts.{resources}
use Rattle.spawn.proofs.claims.copies.push_rows.Given as goal

-- what was there, and those of the rows so far
abbrev pub invariant-loop-place : goal.invariant-loop-place
invariant-loop-place l =
    record {
      rw : (f g : List ℕ → Bool) → IsSetOf f l.linked → IsSetOf g l.chosen → l.copies.rw.items ≡ l.fn.copies.rw.items ++ resource_ids (filter (λ x. f x.id && g x.id) (resources (take l.place l.rows)));
      ro : (f g : List ℕ → Bool) → IsSetOf f l.linked → IsSetOf g l.chosen → l.copies.ro.items ≡ l.fn.copies.ro.items ++ filter (λ x. f x.id && not (g x.id)) (resources (take l.place l.rows));
    }
