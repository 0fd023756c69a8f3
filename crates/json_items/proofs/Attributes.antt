-- Attributes written one after another.
use Rattle.std.proofs.Common.{◌≡◌, ◌∙◌, ℕ, List, [], ◌∷◌, ◌++◌, Greater, refl, ap}
use Rattle.std.specs.Cmp.Lexicographic.{slice_cmp, nat_list_cmp_total}
use Rattle.std.specs.List.Sorted.{IsStrictlySortedBy}
use Rattle.std.specs.Ordering.{nat_cmp, match_ordering, ordering_reverse}
use Rattle.serde_json.specs.Data.{member, string, put}
use Rattle.ticket_items.proofs.Ordered.{below_middle}
use Rattle.ticket_items.specs.Attrs.{Pairs, IsInOrder}
use Rattle.json_items.specs.Attributes.{attr_members}

-- a name above those before it is written last
pub put-attr_members : (done : Pairs) (p : List ℕ × List ℕ) (rest : Pairs) → IsInOrder (done ++ p ∷ rest) → put p.0 (string p.1) (attr_members done) ≡ attr_members (done ++ p ∷ [])
unfolding IsStrictlySortedBy
put-attr_members [] p rest h = refl
put-attr_members (first ∷ done) p rest h =
    let above : slice_cmp nat_cmp p.0 first.0 ≡ Greater = nat_list_cmp_total.antisymm p.0 first.0 ∙ ap ordering_reverse (below_middle first.0 done p rest h.0) in
    ap (λ o. match_ordering o (member p.0 (string p.1) (member first.0 (string first.1) (attr_members done))) (member first.0 (string p.1) (attr_members done)) (member first.0 (string first.1) (put p.0 (string p.1) (attr_members done)))) above
    ∙ ap (member first.0 (string first.1)) (put-attr_members done p rest h.1)
