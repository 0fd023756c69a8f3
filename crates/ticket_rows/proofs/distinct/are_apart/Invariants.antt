use Rattle.std.proofs.Common.{◌≡◌, ℕ, List, true, take, map}
use Rattle.std.specs.BTreeSet.{contains_by}
use Rattle.std.specs.Cmp.Lexicographic.{slice_cmp}
use Rattle.std.specs.Ordering.{nat_cmp}
use Rattle.ticket_items.specs.Ids.{mem, are_distinct}
use Rattle.ticket_rows.proofs.distinct.are_apart.Given as goal

-- the texts so far are apart, and they are what was seen
abbrev pub invariant-loop-text : goal.invariant-loop-text
invariant-loop-text l =
    record {
      seen : (q : List ℕ) → contains_by (λ k. slice_cmp nat_cmp q k.now) l.seen ≡ mem q (map (λ s. s.now) (take l.text-index l.texts));
      apart : are_distinct (map (λ s. s.now) (take l.text-index l.texts)) ≡ true;
    }
