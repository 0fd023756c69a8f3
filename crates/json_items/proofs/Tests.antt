-- Tests of lists.
use Rattle.std.proofs.Common.{◌≡◌, ℕ, ◌+◌, ◌<◌, ◌&&◌, Bool, true, false, List, [], ◌∷◌, length, get_or, map, take, refl, sym, ap, ◌∙◌}
use Rattle.std.proofs.lemmas.Bool.{and_from, true≢false}
use Rattle.std.proofs.lemmas.List.{take_more}
use Rattle.std.proofs.lemmas.List.Folds.{list_all-append, list_all-map, list_all_at}
use Rattle.std.specs.List.{list_all}

-- a test of what each item is made into
pub all_mapped : {X Y : Type 0} (test : Y → Bool) (made : X → Y) (xs : List X) → list_all test (map made xs) ≡ list_all (λ x. test (made x)) xs
all_mapped test made xs = list_all-map test made xs

-- a test that all pass
pub all_true : {X : Type 0} (xs : List X) → list_all (λ _. true) xs ≡ true
all_true [] = refl
all_true (x ∷ xs) = all_true xs

not_false : (b : Bool) → (b ≡ false → ⊥) → b ≡ true
not_false true h = refl
not_false false h = absurd (h refl)

-- what holds of all holds of each
pub list_all-at : {X : Type 0} (p : X → Bool) (xs : List X) (i : ℕ) (d : X) → i < length xs → list_all p xs ≡ true → p (get_or xs i d) ≡ true
list_all-at p xs i d within all = not_false (p (get_or xs i d)) (λ no. true≢false (sym all ∙ list_all_at p xs i d within no))

-- what holds so far, and of the next
pub list_all-more : {X : Type 0} (p : X → Bool) (xs : List X) (i : ℕ) (x : X) → i < length xs → x ≡ get_or xs i x → p x ≡ true → list_all p (take i xs) ≡ true → list_all p (take (i + 1) xs) ≡ true
list_all-more p xs i x within is here before =
    let next : list_all p (get_or xs i x ∷ []) ≡ true = ap (λ b. b && true) (ap p (sym is) ∙ here) in
    ap (list_all p) (take_more xs i x within) ∙ list_all-append p (take i xs) (get_or xs i x ∷ []) ∙ and_from _ _ before next

pub and_true : (b : Bool) → (b && true) ≡ b
and_true true = refl
and_true false = refl
