-- What is in flight fails, one destination after the other.
use Rattle.std.proofs.Common.{◌≡◌, ◌∙◌, ℕ, ◌+◌, ◌<◌, ◌≤◌, Bool, true, false, List, length, ap, inl, inr, refl, sym, arith}
use Rattle.std.proofs.lemmas.Bool.{cases_eq, true≢false, both_ways}
use Rattle.courier.specs.Destination.{Destination, after_failed_try}
use Rattle.courier.specs.Table.{destination_at, flies_at, with_changed}
use Rattle.courier.proofs.Keeping.{at-changed, at-other, flies-within}

-- whatever flies is none of the first ones
abbrev pub NoneFliesBelow : ℕ → List Destination → Type 0
NoneFliesBelow line ds = (k : ℕ) → flies_at ds k ≡ true → line ≤ k

-- one more doesn't
pub one_more_idle : (ds : List Destination) (line : ℕ) → NoneFliesBelow line ds → flies_at ds line ≡ false → NoneFliesBelow (line + 1) ds
one_more_idle ds line below idle k flies =
    elim (cases_eq k line) [
      | inl same ↦ absurd (both_ways (flies_at ds line) idle (ap (flies_at ds) (sym same) ∙ flies))
      | inr apart ↦ omega (arith, below k flies, apart)
    ]

-- one more failed
pub one_more_failed : (ds : List Destination) (line now : ℕ) → NoneFliesBelow line ds → flies_at ds line ≡ true → NoneFliesBelow (line + 1) (with_changed (after_failed_try now) ds line)
one_more_failed ds line now below flying k flies =
    elim (cases_eq k line) [
      | inl same ↦
          let new = after_failed_try now (destination_at ds line) in
          absurd (true≢false (sym flies ∙ ap (λ i. flies_at (with_changed (after_failed_try now) ds line) i) same ∙ ap (λ d. d.flying) (at-changed ds line new (flies-within ds line flying))))
      | inr apart ↦ omega (arith, below k (ap (λ d. d.flying) (sym (at-other ds line k (after_failed_try now (destination_at ds line)) apart)) ∙ flies), apart)
    ]

-- none is left
pub none_flies : (ds : List Destination) (line : ℕ) → length ds ≤ line → NoneFliesBelow line ds → (k : ℕ) → flies_at ds k ≡ false
none_flies ds line all below k = by (flies_at ds k) refl
  where
    by : (b : Bool) → flies_at ds k ≡ b → b ≡ false
    by true flies = absurd (omega (arith, below k flies, flies-within ds k flies))
    by false idle = refl
