-- A text compared with one in two pieces.
use Rattle.std.proofs.Common.{◌≡◌, ◌∙◌, ℕ, List, [], ◌∷◌, ◌++◌, length, take, drop, Less, Equal, Greater, refl, ap, sym, ⊎_elim, arith}
use Rattle.std.proofs.lemmas.Bool.{cases_lt}
use Rattle.std.proofs.lemmas.List.{take_all}
use Rattle.std.proofs.Math.ListN.{drop_of_length-le}
use Rattle.std.specs.Prelude.{min}
use Rattle.std.specs.Cmp.Lexicographic.{slice_cmp}
use Rattle.std.specs.Ordering.{nat_cmp, ordering_then}

pub cmp-append : (xs ys zs : List ℕ)
    → ordering_then (slice_cmp nat_cmp (take (length ys) xs) ys) (slice_cmp nat_cmp (drop (length ys) xs) zs) ≡ slice_cmp nat_cmp xs (ys ++ zs)
cmp-append xs [] zs = refl
cmp-append [] (y ∷ ys) zs = refl
cmp-append (x ∷ xs) (y ∷ ys) zs =
    elim (nat_cmp x y)
    as (λ o. ordering_then (ordering_then o (slice_cmp nat_cmp (take (length ys) xs) ys)) (slice_cmp nat_cmp (drop (length ys) xs) zs)
    ≡ ordering_then o (slice_cmp nat_cmp xs (ys ++ zs)))
    [ Less ↦ refl | Equal ↦ cmp-append xs ys zs | Greater ↦ refl ]

-- the bytes that both have
pub shared_front : (xs : List ℕ) (n : ℕ) → take (min (length xs) n) xs ≡ take n xs
shared_front xs n =
    ⊎_elim
    (λ less. let m : min (length xs) n ≡ length xs = omega arith in
    ap (λ k. take k xs) m ∙ take_all (length xs) xs (omega arith) ∙ sym (take_all n xs (omega arith)))
    (λ more. let m : min (length xs) n ≡ n = omega arith in ap (λ k. take k xs) m)
    (cases_lt (length xs) n)

pub shared_rest : (xs : List ℕ) (n : ℕ) → drop (min (length xs) n) xs ≡ drop n xs
shared_rest xs n =
    ⊎_elim
    (λ less. let m : min (length xs) n ≡ length xs = omega arith in
    ap (λ k. drop k xs) m ∙ drop_of_length-le xs (omega arith) ∙ sym (drop_of_length-le xs (omega arith)))
    (λ more. let m : min (length xs) n ≡ n = omega arith in ap (λ k. drop k xs) m)
    (cases_lt (length xs) n)
