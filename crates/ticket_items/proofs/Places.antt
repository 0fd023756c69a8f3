-- Where something stands in a list.
use Rattle.std.proofs.Common.{◌≡◌, ℕ, suc, ◌+◌, ◌<◌, ◌||◌, Bool, true, false, not, cond, List, [], ◌∷◌, length, Option, Some, None, is_some, refl, sym, ap, ◌∙◌, arith, ltb, one-add, subst, zero, slice_get}
use Rattle.std.proofs.lemmas.Bool.{ltb-true, ltb-false, lt-ltb, le-ltb}
use Rattle.std.proofs.lemmas.List.Sums.{prefix_len-le-length}
use Rattle.std.specs.List.{find, list_any, position, position_or_len}
use Rattle.std.specs.Option.{unwrap_or, option_map}

or_else : (b : Bool) (m n : ℕ) → (b ≡ false → n ≡ m) → unwrap_or (cond b (Some m) None) n ≡ m
or_else true m n h = refl
or_else false m n h = h refl

-- the first place, or the length where there is none
pub unwrap_or_position : {X : Type 0} (p : X → Bool) (xs : List X) → unwrap_or (position p xs) (length xs) ≡ position_or_len p xs
unwrap_or_position p xs =
    or_else (ltb (position_or_len p xs) (length xs)) _ _ (λ e. omega (arith, ltb-false _ _ e, prefix_len-le-length (λ x. not (p x)) xs))

-- ---- where it stands, by recursion

later_at : (b : Bool) (n m : ℕ) → ltb n m ≡ b → cond (ltb (1 + n) (suc m)) (Some (1 + n)) None ≡ option_map suc (cond b (Some n) None)
later_at true n m e = ap (λ b. cond b (Some (1 + n)) None) (lt-ltb (1 + n) (suc m) (omega (arith, ltb-true n m e))) ∙ ap Some (one-add n)
later_at false n m e = ap (λ b. cond b (Some (1 + n)) None) (le-ltb (1 + n) (suc m) (omega (arith, ltb-false n m e)))

first_at : {X : Type 0} (b : Bool) (p : X → Bool) (xs : List X) → cond (ltb (cond (not b) (1 + position_or_len p xs) 0) (suc (length xs))) (Some (cond (not b) (1 + position_or_len p xs) 0)) None ≡ cond b (Some 0) (option_map suc (position p xs))
first_at true p xs = ap (λ b. cond b (Some 0) None) (lt-ltb 0 (suc (length xs)) (omega arith))
first_at false p xs = later_at (ltb (position_or_len p xs) (length xs)) (position_or_len p xs) (length xs) refl

pub position-cons : {X : Type 0} (p : X → Bool) (x : X) (xs : List X) → position p (x ∷ xs) ≡ cond (p x) (Some 0) (option_map suc (position p xs))
position-cons p x xs = first_at (p x) p xs

-- ---- what is found

some_row : {X : Type 0} (b : Bool) (x : X) (o : Option X) (c : Bool) → is_some o ≡ c → is_some (cond b (Some x) o) ≡ (b || c)
some_row true x o c e = refl
some_row false x o c e = e

pub is_some-find : {X : Type 0} (p : X → Bool) (xs : List X) → is_some (find p xs) ≡ list_any p xs
is_some-find p [] = refl
is_some-find p (x ∷ xs) = some_row (p x) x (find p xs) (list_any p xs) (is_some-find p xs)

-- what `find` finds is at the first place
abbrev pub FoundAt : {X : Type 0} → (X → Bool) → List X → ℕ → Type 0
FoundAt {X} p xs k = (x : X) × (find p xs ≡ Some x) × (slice_get xs k ≡ Some x)

found_row : {X : Type 0} (here : Bool) (later : Option ℕ) (p : X → Bool) (x : X) (xs : List X) (k : ℕ) → p x ≡ here → cond here (Some 0) (option_map suc later) ≡ Some k → ((j : ℕ) → later ≡ Some j → FoundAt p xs j) → FoundAt p (x ∷ xs) k
found_row true later p x xs zero e found go = (x, ap (λ b. cond b (Some x) (find p xs)) e, refl)
found_row true later p x xs (suc k) e found go = cc
found_row false None p x xs k e found go = cc
found_row false (Some j) p x xs zero e found go = cc
found_row false (Some j) p x xs (suc k) e found go =
    let next : j ≡ k = cc in
    let rest : FoundAt p xs k = subst (FoundAt p xs) next (go j refl) in
    (rest.0, ap (λ b. cond b (Some x) (find p xs)) e ∙ rest.1, rest.2)

pub found_at_position : {X : Type 0} (p : X → Bool) (xs : List X) (k : ℕ) → position p xs ≡ Some k → FoundAt p xs k
found_at_position p [] k found = cc
found_at_position p (x ∷ xs) k found = found_row (p x) (position p xs) p x xs k refl (sym (position-cons p x xs) ∙ found) (found_at_position p xs)

none_row : {X : Type 0} (here : Bool) (later : Option ℕ) (x : X) (rest : Option X) → cond here (Some 0) (option_map suc later) ≡ None → (later ≡ None → rest ≡ None) → cond here (Some x) rest ≡ None
none_row true later x rest none go = cc
none_row false None x rest none go = go refl
none_row false (Some j) x rest none go = cc

pub none_at_position : {X : Type 0} (p : X → Bool) (xs : List X) → position p xs ≡ None → find p xs ≡ None
none_at_position p [] none = refl
none_at_position p (x ∷ xs) none = none_row (p x) (position p xs) x (find p xs) (sym (position-cons p x xs) ∙ none) (none_at_position p xs)

-- what stands at the first place passes
passes_row : {X : Type 0} (here : Bool) (later : Option ℕ) (p : X → Bool) (x : X) (xs : List X) (k : ℕ) (y : X) → p x ≡ here → cond here (Some 0) (option_map suc later) ≡ Some k → slice_get (x ∷ xs) k ≡ Some y
    → ((j : ℕ) → later ≡ Some j → slice_get xs j ≡ Some y → p y ≡ true) → p y ≡ true
passes_row true later p x xs zero y e found at go =
    let same : x ≡ y = cc in
    ap p (sym same) ∙ e
passes_row true later p x xs (suc k) y e found at go = cc
passes_row false None p x xs k y e found at go = cc
passes_row false (Some j) p x xs zero y e found at go = cc
passes_row false (Some j) p x xs (suc k) y e found at go =
    let next : j ≡ k = cc in
    go j refl (subst (λ i. slice_get xs i ≡ Some y) (sym next) at)

pub passes_at_position : {X : Type 0} (p : X → Bool) (xs : List X) (k : ℕ) (y : X) → position p xs ≡ Some k → slice_get xs k ≡ Some y → p y ≡ true
passes_at_position p [] k y found at = cc
passes_at_position p (x ∷ xs) k y found at = passes_row (p x) (position p xs) p x xs k y refl (sym (position-cons p x xs) ∙ found) at (λ j f a. passes_at_position p xs j y f a)

below_at : (b : Bool) (n m k : ℕ) → ltb n m ≡ b → cond b (Some n) None ≡ Some k → k < m
below_at true n m k e found =
    let same : n ≡ k = cc in
    omega (arith, ltb-true n m e)
below_at false n m k e found = cc

pub below_length : {X : Type 0} (p : X → Bool) (xs : List X) (k : ℕ) → position p xs ≡ Some k → k < length xs
below_length p xs k found = below_at _ (position_or_len p xs) (length xs) k refl found

-- what is found twice is the same
pub same_found : {X : Type 0} (x y : X) (o : Option X) → o ≡ Some x → o ≡ Some y → x ≡ y
same_found x y o a b = cc
