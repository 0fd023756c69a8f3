-- What stands between two bounds, where just that passes a test.
use Rattle.std.proofs.Common.{◌≡◌, ◌∙◌, ℕ, zero, suc, ◌-◌, ◌&&◌, Bool, true, false, cond, List, []}
use Rattle.std.proofs.Common.{◌∷◌, take, drop, Some, refl, sym, ap, arith, nat_le, nat_lt}
use Rattle.std.proofs.Common.{slice_get}
use Rattle.std.proofs.lemmas.Bool.{and_from, ltb-true, ltb-false, leb-true, leb-false, lt-ltb}
use Rattle.std.proofs.lemmas.Bool.{le-ltb, le-leb, lt-leb}
use Rattle.std.specs.List.{filter}

-- those at places between two bounds pass the test, and no others
abbrev pub Between : {X : Type 0} → (X → Bool) → List X → ℕ → ℕ → Type 0
Between {X} f xs from to = (k : ℕ) (x : X) → slice_get xs k ≡ Some x → f x ≡ (nat_le from k && nat_lt k to)

first_in : {X : Type 0} (b : Bool) (f : X → Bool) (x : X) (xs ys : List X) → f x ≡ b
    → filter f xs ≡ ys → filter f (x ∷ xs) ≡ cond b (x ∷ ys) ys
first_in b f x xs ys e rest = ap (λ c. cond c (x ∷ filter f xs) (filter f xs)) e ∙ ap (λ zs. cond b (x ∷ zs) zs) rest

le_suc_at : (b : Bool) (k n : ℕ) → nat_le k n ≡ b → nat_le (suc k) (suc n) ≡ b
le_suc_at true k n e = le-leb (suc k) (suc n) (omega (arith, leb-true k n e))
le_suc_at false k n e = lt-leb (suc k) (suc n) (omega (arith, leb-false k n e))

lt_suc_at : (b : Bool) (k n : ℕ) → nat_lt k n ≡ b → nat_lt (suc k) (suc n) ≡ b
lt_suc_at true k n e = lt-ltb (suc k) (suc n) (omega (arith, ltb-true k n e))
lt_suc_at false k n e = le-ltb (suc k) (suc n) (omega (arith, ltb-false k n e))

abbrev none_of : (X : Type 0) → List X
none_of X = []

drop_none : {X : Type 0} (n : ℕ) → drop n (none_of X) ≡ []
drop_none zero = refl
drop_none (suc n) = refl

take_none : {X : Type 0} (n : ℕ) (xs : List X) → xs ≡ [] → take n xs ≡ []
take_none zero xs e = refl
take_none (suc n) [] e = refl
take_none (suc n) (x ∷ xs) e = cc

suc_minus : (n : ℕ) → suc n ≡ suc n - 0
suc_minus n = omega arith

le_suc : (k n : ℕ) → nat_le (suc k) (suc n) ≡ nat_le k n
le_suc k n = le_suc_at (nat_le k n) k n refl

lt_suc : (k n : ℕ) → nat_lt (suc k) (suc n) ≡ nat_lt k n
lt_suc k n = lt_suc_at (nat_lt k n) k n refl

and_none : (b : Bool) → (b && false) ≡ false
and_none true = refl
and_none false = refl

lt_none : (k : ℕ) → nat_lt k 0 ≡ false
lt_none k = le-ltb k 0 (omega arith)

le_any : (k : ℕ) → nat_le 0 k ≡ true
le_any k = le-leb 0 k (omega arith)

minus_none : (n : ℕ) → n - 0 ≡ n
minus_none n = omega arith

none_there : (a b : Bool) (j k : ℕ) → (a && nat_lt j 0) ≡ (b && nat_lt k 0)
none_there a b j k = ap (λ c. a && c) (lt_none j) ∙ and_none a ∙ sym (ap (λ c. b && c) (lt_none k) ∙ and_none b)

pub filter_between : {X : Type 0} (f : X → Bool) (xs : List X) (from to : ℕ) → Between f xs from to
    → filter f xs ≡ take (to - from) (drop from xs)
filter_between f [] from to at = sym (take_none (to - from) (drop from []) (drop_none from))
filter_between f (x ∷ xs) zero zero at =
    first_in false f x xs [] (at zero x refl ∙ ap (λ b. nat_le 0 0 && b) (lt_none 0) ∙ and_none (nat_le 0 0)) (filter_between f xs zero zero (λ k y e. at (suc k) y e ∙ none_there (nat_le 0 (suc k)) (nat_le 0 k) (suc k) k))
filter_between f (x ∷ xs) zero (suc to) at =
    first_in true f x xs (take (to - 0) xs) (at zero x refl ∙ and_from _ _ (le_any 0) (lt-ltb 0 (suc to) (omega arith)))
    (filter_between f xs zero to (λ k y e. at (suc k) y e ∙ ap (λ b. b && nat_lt (suc k) (suc to)) (le_any (suc k) ∙ sym (le_any k)) ∙ ap (λ b. nat_le 0 k && b) (lt_suc k to)))
    ∙ ap (λ n. x ∷ take n xs) (minus_none to) ∙ ap (λ n. take n (x ∷ xs)) (suc_minus to)
filter_between f (x ∷ xs) (suc from) zero at =
    first_in false f x xs (take (0 - from) (drop from xs)) (at zero x refl ∙ ap (λ b. b && nat_lt 0 0) (lt-leb (suc from) 0 (omega arith)))
    (filter_between f xs from zero (λ k y e. at (suc k) y e ∙ none_there (nat_le (suc from) (suc k)) (nat_le from k) (suc k) k))
    ∙ ap (λ n. take n (drop from xs)) (omega arith)
filter_between f (x ∷ xs) (suc from) (suc to) at =
    first_in false f x xs (take (to - from) (drop from xs)) (at zero x refl ∙ ap (λ b. b && nat_lt 0 (suc to)) (lt-leb (suc from) 0 (omega arith)))
    (filter_between f xs from to (λ k y e. at (suc k) y e ∙ ap (λ b. b && nat_lt (suc k) (suc to)) (le_suc from k) ∙ ap (λ b. nat_le from k && b) (lt_suc k to)))
    ∙ ap (λ n. take n (drop from xs)) (omega arith)
