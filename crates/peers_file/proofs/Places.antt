-- What a search in rows in order ends with, and what stands there.
use Rattle.std.proofs.Common.{◌≡◌, ◌∙◌, ℕ, zero, suc, ◌+◌, ◌<◌, List, [], ◌∷◌, length, get_or, Some, None, Ok, Err, Result, Less, Equal, Greater, Ordering, IfOk, IfErr, refl, sym, ap, ap₂, cond, arith}
use Rattle.std.proofs.lemmas.List.Sorted.{searchable_from_sorted}
use Rattle.std.proofs.Math.ListN.{get_or-map}
use Rattle.std.proofs.lemmas.Map.Entries.{length-keys_of}
use Rattle.std.proofs.lemmas.Map.Keys.{Less-from_sorted}
use Rattle.std.specs.Cmp.Lexicographic.{slice_cmp, nat_list_cmp_total}
use Rattle.std.specs.List.Sorted.{IsSearchInRange, IsBinarySearchResult, IsNonDecreasingBy}
use Rattle.std.specs.Map.{keys_of}
use Rattle.std.specs.Ordering.{nat_cmp, ordering_reverse, ordering_index, is_eq, is_lt}
use Rattle.url.specs.Parts.{Parts}
use Rattle.peers_file.specs.Places.{Compares, StandsAt, BelongsAt}
use Rattle.peers_file.specs.Table.{Rows, IsInOrder, url_under}

abbrev Row : Type 0
Row = List ℕ × Parts

-- ---- the rest of the rows

module _ (pattern : List ℕ) (first : Row) (rest : Rows) where
  url_of : (o : Ordering) → Compares pattern o first → url_under pattern (first ∷ rest) ≡ cond (is_eq o) (Some first.1) (url_under pattern rest)
  url_of o is = ap (λ c. cond (is_eq c) (Some first.1) (url_under pattern rest)) is

  stands_in_rest : (place : ℕ) → StandsAt pattern (first ∷ rest) (suc place) → StandsAt pattern rest place
  stands_in_rest place at = record { within = omega (arith, at.within); behind = λ k d low high. at.behind (suc k) d (omega arith) (omega arith); there = at.there }

  belongs_in_rest : (place : ℕ) → BelongsAt pattern (first ∷ rest) (suc place) → BelongsAt pattern rest place
  belongs_in_rest place at = record { within = omega (arith, at.within); behind = λ k d low high. at.behind (suc k) d (omega arith) (omega arith); before = λ k d low high. at.before (suc k) d (omega arith) (omega arith) }

  above_rest : BelongsAt pattern (first ∷ rest) 0 → BelongsAt pattern rest 0
  above_rest at = record { within = omega arith; behind = λ k d low high. absurd (omega arith); before = λ k d low high. at.before (suc k) d (omega arith) (omega arith) }

-- ---- a pattern that is there, and one that isn't

module _ (pattern : List ℕ) where
  pub url_there : (rows : Rows) (place : ℕ) (d : Row) → StandsAt pattern rows place → url_under pattern rows ≡ Some (get_or rows place d).1
  url_there [] place d at = absurd (omega (arith, at.within))
  url_there (r ∷ rows) zero d at = url_of pattern r rows Equal (at.there d)
  url_there (r ∷ rows) (suc place) d at = url_of pattern r rows Greater (at.behind 0 d (omega arith) (omega arith)) ∙ url_there rows place d (stands_in_rest pattern r rows place at)

  pub no_url : (rows : Rows) (place : ℕ) → BelongsAt pattern rows place → url_under pattern rows ≡ None
  no_url [] place at = refl
  no_url (r ∷ rows) zero at = url_of pattern r rows Less (at.before 0 r (omega arith) (omega arith)) ∙ no_url rows zero (above_rest pattern r rows at)
  no_url (r ∷ rows) (suc place) at = url_of pattern r rows Greater (at.behind 0 r (omega arith) (omega arith)) ∙ no_url rows place (belongs_in_rest pattern r rows place at)

-- ---- where a search ends

module _ (pattern : List ℕ) (rows : Rows) (ordered : IsInOrder rows) where
  less_at : (i j : ℕ) (d : Row) → i < j → j < length rows → slice_cmp nat_cmp (get_or rows i d).0 (get_or rows j d).0 ≡ Less
  less_at i j d below within =
      ap₂ (slice_cmp nat_cmp) (sym (get_or-map (λ (r : Row). r.0) rows i d)) (sym (get_or-map (λ (r : Row). r.0) rows j d))
      ∙ Less-from_sorted (slice_cmp nat_cmp) (keys_of rows) i j d.0 ordered below (omega (arith, length-keys_of rows))

  rising : IsNonDecreasingBy (λ r. ordering_index (slice_cmp nat_cmp r.0 pattern)) rows
  rising = searchable_from_sorted nat_list_cmp_total (λ r. r.0) rows pattern (λ k d low high. ap is_lt (nat_list_cmp_total.antisymm (get_or rows (k + 1) d).0 (get_or rows k d).0 ∙ ap ordering_reverse (less_at k (k + 1) d (omega arith) high)))

  flipped : (o : Ordering) (r : Row) → slice_cmp nat_cmp r.0 pattern ≡ o → Compares pattern (ordering_reverse o) r
  flipped o r is = nat_list_cmp_total.antisymm pattern r.0 ∙ ap ordering_reverse is

  behind_it : (place : ℕ) → place < length rows → (d : Row) → slice_cmp nat_cmp (get_or rows place d).0 pattern ≡ Equal → (k : ℕ) → k < place → Compares pattern Greater (get_or rows k d)
  behind_it place within d equal k below =
      let here = (get_or rows place d).0 in
      let other = (get_or rows k d).0 in
      sym (nat_list_cmp_total.congr here pattern other equal) ∙ nat_list_cmp_total.antisymm here other ∙ ap ordering_reverse (less_at k place d below within)

  pub searched : (r : Result ℕ ℕ) → IsSearchInRange r (length rows) → IsBinarySearchResult (λ r. slice_cmp nat_cmp r.0 pattern) rows r → record { found : IfOk r (StandsAt pattern rows); missing : IfErr r (BelongsAt pattern rows) }
  searched (Ok place) within equal = record {
    found = record {
      within = within;
      behind = λ k d low high. behind_it place within d (equal d) k high;
      there = λ d. flipped Equal (get_or rows place d) (equal d);
    };
    missing = tt;
  }
  searched (Err place) within parted = record {
    found = tt;
    missing = record {
      within = within;
      behind = λ k d low high. flipped Less (get_or rows k d) ((parted rising).0 k d low high);
      before = λ k d low high. flipped Greater (get_or rows k d) ((parted rising).1 k d low high);
    };
  }
