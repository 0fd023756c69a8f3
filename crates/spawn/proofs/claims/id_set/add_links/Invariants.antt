use Rattle.std.proofs.Common.{◌||◌, ℕ, Bool, List, take}
use Rattle.std.specs.List.{list_any}
use Rattle.std.specs.Str.{bytes_eq}
use Rattle.spawn.specs.IdSet.{IsSetOf}
use Rattle.spawn.proofs.claims.id_set.add_links.Given as goal

-- what was in it, and the links so far
abbrev pub invariant-loop-link : goal.invariant-loop-link
invariant-loop-link l =
    (f : List ℕ → Bool) → IsSetOf f l.fn.set → IsSetOf (λ x. f x || list_any (λ k. bytes_eq k.rref x) (take l.link-index l.row.links)) l.set
