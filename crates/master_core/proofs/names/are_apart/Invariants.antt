use Rattle.std.proofs.Common.{◌≡◌, ◌∷◌, ℕ, List, true, take}
use Rattle.std.specs.BTreeSet.{contains_by}
use Rattle.std.specs.Cmp.Lexicographic.{slice_cmp}
use Rattle.std.specs.Ordering.{nat_cmp}
use Rattle.ticket_items.specs.Ids.{mem, are_distinct}
use Rattle.master_core.proofs.names.are_apart.Given as goal

-- the names so far are apart, and they are what was seen
abbrev pub invariant-loop-worker : goal.invariant-loop-worker
invariant-loop-worker l =
    record {
      seen : (q : List ℕ) → contains_by (λ k. slice_cmp nat_cmp q k.now) l.seen ≡ mem q (l.name ∷ take l.worker-index l.workers);
      apart : are_distinct (l.name ∷ take l.worker-index l.workers) ≡ true;
    }
