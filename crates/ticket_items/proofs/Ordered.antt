-- Pairs in the byte order of their names, set one after another. `below_middle` and `with_attr-last` are for the crates above, too.
use Rattle.std.proofs.Common.{◌≡◌, ℕ, ◌+◌, ◌<◌, List, [], ◌∷◌, ◌++◌, length, get_or, take, drop, Less, Greater, Ordering, refl, sym, ap, subst, ◌∙◌}
use Rattle.std.proofs.lemmas.List.{take-append-drop, drop_more, take_more}
use Rattle.std.specs.Cmp.Lexicographic.{slice_cmp, nat_list_cmp_total}
use Rattle.std.specs.List.{AllByRecursion}
use Rattle.std.specs.List.Sorted.{IsStrictlySortedBy}
use Rattle.std.specs.Map.{keys_of}
use Rattle.std.specs.Ordering.{nat_cmp, match_ordering, ordering_reverse}
use Rattle.ticket_items.specs.Attrs.{Pairs, IsInOrder, with_attr}

pub none_in_order : IsInOrder []
unfolding IsStrictlySortedBy
none_in_order = tt

last_at : (o : Ordering) (k v : List ℕ) (first : List ℕ × List ℕ) (done : Pairs) → slice_cmp nat_cmp k first.0 ≡ o → slice_cmp nat_cmp first.0 k ≡ Less → with_attr k v done ≡ done ++ (k, v) ∷ [] → with_attr k v (first ∷ done) ≡ first ∷ done ++ (k, v) ∷ []
last_at o k v first done e less later =
    let above : slice_cmp nat_cmp k first.0 ≡ Greater = nat_list_cmp_total.antisymm k first.0 ∙ ap ordering_reverse less in
    ap (λ c. match_ordering c ((k, v) ∷ first ∷ done) ((first.0, v) ∷ done) (first ∷ with_attr k v done)) above ∙ ap (λ ps. first ∷ ps) later

-- a name below all of a list is below the one in its middle
pub below_middle : (k : List ℕ) (done : Pairs) (p : List ℕ × List ℕ) (rest : Pairs) → AllByRecursion (λ y. slice_cmp nat_cmp k y ≡ Less) (keys_of (done ++ p ∷ rest)) → slice_cmp nat_cmp k p.0 ≡ Less
below_middle k [] p rest h = h.0
below_middle k (x ∷ done) p rest h = below_middle k done p rest h.1

-- a name above those before it goes last
pub with_attr-last : (done : Pairs) (p : List ℕ × List ℕ) (rest : Pairs) → IsInOrder (done ++ p ∷ rest) → with_attr p.0 p.1 done ≡ done ++ p ∷ []
unfolding IsStrictlySortedBy
with_attr-last [] p rest h = refl
with_attr-last (first ∷ done) p rest h = last_at _ p.0 p.1 first done refl (below_middle first.0 done p rest h.0) (with_attr-last done p rest h.1)

-- one pair more of a list in order is set
pub with_attr-more : (pairs : Pairs) (i : ℕ) (p : List ℕ × List ℕ) → i < length pairs → p ≡ get_or pairs i p → IsInOrder pairs → with_attr p.0 p.1 (take i pairs) ≡ take (i + 1) pairs
with_attr-more pairs i p within is ordered =
    let split : pairs ≡ take i pairs ++ p ∷ drop (i + 1) pairs = sym (take-append-drop i pairs) ∙ ap (λ ps. take i pairs ++ ps) (drop_more pairs i p within ∙ ap (λ q. q ∷ drop (i + 1) pairs) (sym is)) in
    with_attr-last (take i pairs) p (drop (i + 1) pairs) (subst IsInOrder split ordered) ∙ ap (λ q. take i pairs ++ q ∷ []) is ∙ sym (take_more pairs i p within)
