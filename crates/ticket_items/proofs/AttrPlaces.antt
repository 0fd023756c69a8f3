-- What is found of a name in a list in order, and what setting it there makes.
use Rattle.std.proofs.Common.{◌≡◌, ◌∙◌, ℕ, zero, suc, ◌+◌, ◌<◌, List, [], ◌∷◌, length, get_or, slice_set, Some, None, Ok, Err, Result, Less, Equal, Greater, Ordering, IfOk, IfErr, refl, sym, ap, ap₂, cond, arith}
use Rattle.std.proofs.lemmas.List.Sorted.{searchable_from_sorted}
use Rattle.std.proofs.Math.ListN.{get_or-map}
use Rattle.std.proofs.lemmas.Map.Entries.{length-keys_of}
use Rattle.std.proofs.lemmas.Map.Keys.{Less-from_sorted}
use Rattle.std.proofs.lemmas.Map.Views.{All-keys-insert_entry}
use Rattle.std.proofs.lemmas.List.Elements.{All-from_recursion, recursion_from_All}
use Rattle.std.specs.Cmp.Lexicographic.{slice_cmp, nat_list_cmp_total}
use Rattle.std.specs.List.{AllByRecursion, insert}
use Rattle.std.specs.List.Sorted.{IsStrictlySortedBy, IsSearchInRange, IsBinarySearchResult, IsNonDecreasingBy}
use Rattle.std.specs.Map.{keys_of}
use Rattle.std.specs.Ordering.{nat_cmp, match_ordering, ordering_reverse, ordering_index, is_eq, is_lt}
use Rattle.ticket_items.specs.AttrPlaces.{Compares, StandsAt, BelongsAt}
use Rattle.ticket_items.specs.Attrs.{Pairs, IsInOrder, text_at, with_attr}

abbrev Pair : Type 0
Pair = List ℕ × List ℕ

-- ---- what comes of the first pair

module _ (name text : List ℕ) (first : Pair) (rest : Pairs) where
  put_at : (o : Ordering) → Compares name o first → with_attr name text (first ∷ rest) ≡ match_ordering o ((name, text) ∷ first ∷ rest) ((first.0, text) ∷ rest) (first ∷ with_attr name text rest)
  put_at o is = ap (λ c. match_ordering c ((name, text) ∷ first ∷ rest) ((first.0, text) ∷ rest) (first ∷ with_attr name text rest)) is

  text_of : (o : Ordering) → Compares name o first → text_at name (first ∷ rest) ≡ cond (is_eq o) (Some first.1) (text_at name rest)
  text_of o is = ap (λ c. cond (is_eq c) (Some first.1) (text_at name rest)) is

-- ---- the rest of a list

module _ (name : List ℕ) (first : Pair) (rest : Pairs) (place : ℕ) where
  stands_in_rest : StandsAt name (first ∷ rest) (suc place) → StandsAt name rest place
  stands_in_rest at = record { within = omega (arith, at.within); behind = λ k d low high. at.behind (suc k) d (omega arith) (omega arith); there = at.there }

  belongs_in_rest : BelongsAt name (first ∷ rest) (suc place) → BelongsAt name rest place
  belongs_in_rest at = record { within = omega (arith, at.within); behind = λ k d low high. at.behind (suc k) d (omega arith) (omega arith); before = λ k d low high. at.before (suc k) d (omega arith) (omega arith) }

above_rest : (name : List ℕ) (first : Pair) (rest : Pairs) → BelongsAt name (first ∷ rest) 0 → BelongsAt name rest 0
above_rest name first rest at = record { within = omega arith; behind = λ k d low high. absurd (omega arith); before = λ k d low high. at.before (suc k) d (omega arith) (omega arith) }

-- ---- a name that is there

module _ (name : List ℕ) where
  pub text_there : (pairs : Pairs) (place : ℕ) (d : Pair) → StandsAt name pairs place → text_at name pairs ≡ Some (get_or pairs place d).1
  text_there [] place d at = absurd (omega (arith, at.within))
  text_there (p ∷ pairs) zero d at = text_of name [] p pairs Equal (at.there d)
  text_there (p ∷ pairs) (suc place) d at = text_of name [] p pairs Greater (at.behind 0 d (omega arith) (omega arith)) ∙ text_there pairs place d (stands_in_rest name p pairs place at)

  pub replaced : (text : List ℕ) (pairs : Pairs) (place : ℕ) (d : Pair) → StandsAt name pairs place → slice_set pairs place ((get_or pairs place d).0, text) ≡ with_attr name text pairs
  replaced text [] place d at = absurd (omega (arith, at.within))
  replaced text (p ∷ pairs) zero d at = sym (put_at name text p pairs Equal (at.there d))
  replaced text (p ∷ pairs) (suc place) d at = ap (λ ps. p ∷ ps) (replaced text pairs place d (stands_in_rest name p pairs place at)) ∙ sym (put_at name text p pairs Greater (at.behind 0 d (omega arith) (omega arith)))

  -- ---- a name that isn't

  pub no_text : (pairs : Pairs) (place : ℕ) → BelongsAt name pairs place → text_at name pairs ≡ None
  no_text [] place at = refl
  no_text (p ∷ pairs) zero at = text_of name [] p pairs Less (at.before 0 p (omega arith) (omega arith)) ∙ no_text pairs zero (above_rest name p pairs at)
  no_text (p ∷ pairs) (suc place) at = text_of name [] p pairs Greater (at.behind 0 p (omega arith) (omega arith)) ∙ no_text pairs place (belongs_in_rest name p pairs place at)

  pub inserted : (text : List ℕ) (pairs : Pairs) (place : ℕ) → BelongsAt name pairs place → insert pairs place (name, text) ≡ with_attr name text pairs
  inserted text [] zero at = refl
  inserted text [] (suc place) at = absurd (omega (arith, at.within))
  inserted text (p ∷ pairs) zero at = sym (put_at name text p pairs Less (at.before 0 p (omega arith) (omega arith)))
  inserted text (p ∷ pairs) (suc place) at = ap (λ ps. p ∷ ps) (inserted text pairs place (belongs_in_rest name p pairs place at)) ∙ sym (put_at name text p pairs Greater (at.behind 0 p (omega arith) (omega arith)))

-- ---- the order stays

below_rest : (name first : List ℕ) (names : List (List ℕ)) → slice_cmp nat_cmp name first ≡ Less → AllByRecursion (λ y. slice_cmp nat_cmp first y ≡ Less) names → AllByRecursion (λ y. slice_cmp nat_cmp name y ≡ Less) names
below_rest name first [] less h = tt
below_rest name first (y ∷ names) less h = (nat_list_cmp_total.trans name first y less h.0, below_rest name first names less h.1)

kept_at : (o : Ordering) (name text : List ℕ) (first : Pair) (rest : Pairs) → Compares name o first → IsInOrder (first ∷ rest) → IsInOrder (with_attr name text rest) → IsInOrder (match_ordering o ((name, text) ∷ first ∷ rest) ((first.0, text) ∷ rest) (first ∷ with_attr name text rest))
unfolding IsStrictlySortedBy
kept_at Less name text first rest is ordered later = ((is, below_rest name first.0 (keys_of rest) is ordered.0), ordered)
kept_at Equal name text first rest is ordered later = ordered
kept_at Greater name text first rest is ordered later =
    let above : slice_cmp nat_cmp first.0 name ≡ Less = nat_list_cmp_total.antisymm first.0 name ∙ ap ordering_reverse is in
    (recursion_from_All _ _ (All-keys-insert_entry (slice_cmp nat_cmp) name text (λ y. slice_cmp nat_cmp first.0 y ≡ Less) rest (All-from_recursion _ _ ordered.0) above), later)

pub with_attr-in_order : (name text : List ℕ) (pairs : Pairs) → IsInOrder pairs → IsInOrder (with_attr name text pairs)
unfolding IsStrictlySortedBy
with_attr-in_order name text [] ordered = (tt, tt)
with_attr-in_order name text (p ∷ pairs) ordered = kept_at _ name text p pairs refl ordered (with_attr-in_order name text pairs ordered.1)

-- ---- where a search ends

module _ (name : List ℕ) (pairs : Pairs) (ordered : IsInOrder pairs) where
  less_at : (i j : ℕ) (d : Pair) → i < j → j < length pairs → slice_cmp nat_cmp (get_or pairs i d).0 (get_or pairs j d).0 ≡ Less
  less_at i j d below within =
      ap₂ (slice_cmp nat_cmp) (sym (get_or-map (λ (p : Pair). p.0) pairs i d)) (sym (get_or-map (λ (p : Pair). p.0) pairs j d))
      ∙ Less-from_sorted (slice_cmp nat_cmp) (keys_of pairs) i j d.0 ordered below (omega (arith, length-keys_of pairs))

  rising : IsNonDecreasingBy (λ p. ordering_index (slice_cmp nat_cmp p.0 name)) pairs
  rising = searchable_from_sorted nat_list_cmp_total (λ p. p.0) pairs name (λ k d low high. ap is_lt (nat_list_cmp_total.antisymm (get_or pairs (k + 1) d).0 (get_or pairs k d).0 ∙ ap ordering_reverse (less_at k (k + 1) d (omega arith) high)))

  flipped : (o : Ordering) (p : Pair) → slice_cmp nat_cmp p.0 name ≡ o → Compares name (ordering_reverse o) p
  flipped o p is = nat_list_cmp_total.antisymm name p.0 ∙ ap ordering_reverse is

  behind_it : (place : ℕ) → place < length pairs → (d : Pair) → slice_cmp nat_cmp (get_or pairs place d).0 name ≡ Equal → (k : ℕ) → k < place → Compares name Greater (get_or pairs k d)
  behind_it place within d equal k below =
      let here = (get_or pairs place d).0 in
      let other = (get_or pairs k d).0 in
      sym (nat_list_cmp_total.congr here name other equal) ∙ nat_list_cmp_total.antisymm here other ∙ ap ordering_reverse (less_at k place d below within)

  pub searched : (r : Result ℕ ℕ) → IsSearchInRange r (length pairs) → IsBinarySearchResult (λ p. slice_cmp nat_cmp p.0 name) pairs r → record { found : IfOk r (StandsAt name pairs); missing : IfErr r (BelongsAt name pairs) }
  searched (Ok place) within equal = record {
    found = record {
      within = within;
      behind = λ k d low high. behind_it place within d (equal d) k high;
      there = λ d. flipped Equal (get_or pairs place d) (equal d);
    };
    missing = tt;
  }
  searched (Err place) within parted = record {
    found = tt;
    missing = record {
      within = within;
      behind = λ k d low high. flipped Less (get_or pairs k d) ((parted rising).0 k d low high);
      before = λ k d low high. flipped Greater (get_or pairs k d) ((parted rising).1 k d low high);
    };
  }
