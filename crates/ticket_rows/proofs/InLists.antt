-- What is found in a list with one more in it, or with one in the place of another.
use Rattle.std.proofs.Common.{◌≡◌, ℕ, zero, suc, ◌+◌, ◌<◌, ◌≤◌, ◌||◌, Bool, true, false, cond, List}
use Rattle.std.proofs.Common.{[], ◌∷◌, ◌++◌, length, map, Option, Some, None, is_some, refl, sym, ap}
use Rattle.std.proofs.Common.{◌∙◌, arith, leb, slice_get, subst}
use Rattle.std.proofs.lemmas.Bool.{or_parts, true≢false, leb-true, leb-false, le-leb, lt-leb}
use Rattle.std.specs.List.{find, list_any, position}
use Rattle.std.specs.Option.{option_map, option_and_then}
use Rattle.ticket_items.proofs.KeyPlaces.{some_passes}
use Rattle.ticket_items.proofs.Places.{is_some-find, none_at_position, position-cons}
use Rattle.ticket_rows.specs.Index.{shifted_place}

-- ---- places that are raised

pub shifted_place-front : (from k : ℕ) → k < from → shifted_place from k ≡ k
shifted_place-front from k low = ap (λ b. cond b (suc k) k) (lt-leb from k low)

pub shifted_place-behind : (from k : ℕ) → from ≤ k → shifted_place from k ≡ suc k
shifted_place-behind from k high = ap (λ b. cond b (suc k) k) (le-leb from k high)

shifted_place-suc : (from k : ℕ) → suc (shifted_place from k) ≡ shifted_place (suc from) (suc k)
shifted_place-suc from k = by (leb from k) refl
  where
    by : (b : Bool) → leb from k ≡ b → suc (shifted_place from k) ≡ shifted_place (suc from) (suc k)
    by true e =
        let low : from ≤ k = leb-true from k e in
        ap suc (shifted_place-behind from k low) ∙ sym (shifted_place-behind (suc from) (suc k) (omega arith))
    by false e =
        let high : k < from = leb-false from k e in
        ap suc (shifted_place-front from k high) ∙ sym (shifted_place-front (suc from) (suc k) (omega arith))

pub shifted_place-le : (from k : ℕ) → shifted_place from k ≤ suc k
shifted_place-le from k = by (leb from k) refl
  where
    by : (b : Bool) → leb from k ≡ b → shifted_place from k ≤ suc k
    by true e =
        let is : shifted_place from k ≡ suc k = shifted_place-behind from k (leb-true from k e) in
        omega arith
    by false e =
        let is : shifted_place from k ≡ k = shifted_place-front from k (leb-false from k e) in
        omega arith

-- ---- one more that fails a test

pub position-skips : {X : Type 0} (p : X → Bool) (front back : List X) (y : X) → p y ≡ false
    → position p (front ++ y ∷ back)
    ≡ option_map (shifted_place (length front)) (position p (front ++ back))
position-skips p [] back y fails =
    position-cons p y back ∙ ap (λ b. cond b (Some 0) (option_map suc (position p back))) fails ∙ row (position p back)
  where
    row : (o : Option ℕ) → option_map suc o ≡ option_map (shifted_place 0) o
    row None = refl
    row (Some k) = ap Some (sym (shifted_place-behind 0 k (omega arith)))
position-skips p (x ∷ front) back y fails =
    position-cons p x (front ++ y ∷ back) ∙ ap (λ o. cond (p x) (Some 0) (option_map suc o)) (position-skips p front back y fails)
    ∙ row (p x) (position p (front ++ back)) (length front)
    ∙ sym (ap (option_map (shifted_place (suc (length front)))) (position-cons p x (front ++ back)))
  where
    row : (b : Bool) (o : Option ℕ) (n : ℕ)
        → cond b (Some 0) (option_map suc (option_map (shifted_place n) o))
        ≡ option_map (shifted_place (suc n)) (cond b (Some 0) (option_map suc o))
    row true o n = ap Some (sym (shifted_place-front (suc n) 0 (omega arith)))
    row false None n = refl
    row false (Some k) n = ap Some (shifted_place-suc n k)

pub find-skips : {X : Type 0} (p : X → Bool) (front back : List X) (y : X) → p y ≡ false
    → find p (front ++ y ∷ back) ≡ find p (front ++ back)
find-skips p [] back y fails = ap (λ b. cond b (Some y) (find p back)) fails
find-skips p (x ∷ front) back y fails = ap (cond (p x) (Some x)) (find-skips p front back y fails)

-- ---- one in the place of another

pub position-swap : {X : Type 0} (p : X → Bool) (front back : List X) (y z : X) → p z ≡ p y
    → position p (front ++ z ∷ back) ≡ position p (front ++ y ∷ back)
position-swap p [] back y z same =
    position-cons p z back ∙ ap (λ b. cond b (Some 0) (option_map suc (position p back))) same ∙ sym (position-cons p y back)
position-swap p (x ∷ front) back y z same =
    position-cons p x (front ++ z ∷ back) ∙ ap (λ o. cond (p x) (Some 0) (option_map suc o)) (position-swap p front back y z same) ∙ sym (position-cons p x (front ++ y ∷ back))

pub find-swap : {X Y : Type 0} (p : X → Bool) (f : X → Option Y) (front back : List X) (y z : X)
    → p z ≡ p y → f z ≡ f y
    → option_and_then f (find p (front ++ z ∷ back)) ≡ option_and_then f (find p (front ++ y ∷ back))
find-swap {X = X} {Y = Y} p f [] back y z same out = ap (λ b. option_and_then f (cond b (Some z) (find p back))) same ∙ row (p y) (find p back)
  where
    row : (b : Bool) (o : Option X)
        → option_and_then f (cond b (Some z) o) ≡ option_and_then f (cond b (Some y) o)
    row true o = out
    row false o = refl
find-swap {X = X} {Y = Y} p f (x ∷ front) back y z same out = row (p x) _ _ (find-swap p f front back y z same out)
  where
    row : (b : Bool) (o q : Option X) → option_and_then f o ≡ option_and_then f q
        → option_and_then f (cond b (Some x) o) ≡ option_and_then f (cond b (Some x) q)
    row true o q e = refl
    row false o q e = e

-- ---- the first that passes

pub find-behind : {X : Type 0} (p : X → Bool) (front back : List X) (y : X)
    → list_any p front ≡ false → p y ≡ true → find p (front ++ y ∷ back) ≡ Some y
find-behind p [] back y none passes = ap (λ b. cond b (Some y) (find p back)) passes
find-behind p (x ∷ front) back y none passes =
    let parts = or_parts (p x) (list_any p front) none in
    ap (λ b. cond b (Some x) (find p (front ++ y ∷ back))) parts.0 ∙ find-behind p front back y parts.1 passes

pub is_some-position : {X : Type 0} (p : X → Bool) (xs : List X)
    → is_some (position p xs) ≡ list_any p xs
is_some-position p xs = by (position p xs) refl
  where
    by : (o : Option ℕ) → position p xs ≡ o → is_some o ≡ list_any p xs
    by None e = ap is_some (sym (none_at_position p xs e)) ∙ is_some-find p xs
    by (Some k) e = sym (some_passes p xs k e)

pub position-none : {X : Type 0} (p : X → Bool) (xs : List X) → list_any p xs ≡ false
    → position p xs ≡ None
position-none p xs none = by (position p xs) refl
  where
    by : (o : Option ℕ) → position p xs ≡ o → position p xs ≡ None
    by None e = e
    by (Some k) e = absurd (true≢false (sym (some_passes p xs k e) ∙ none))

pub find-none : {X : Type 0} (p : X → Bool) (xs : List X) → list_any p xs ≡ false
    → find p xs ≡ None
find-none p [] none = refl
find-none p (x ∷ xs) none =
    let parts = or_parts (p x) (list_any p xs) none in
    ap (λ b. cond b (Some x) (find p xs)) parts.0 ∙ find-none p xs parts.1

-- ---- a list that is read through another

pub position-map : {X Y : Type 0} (p : Y → Bool) (q : X → Bool) (f : X → Y) (xs : List X)
    → ((x : X) → p (f x) ≡ q x) → position p (map f xs) ≡ position q xs
position-map p q f [] same = refl
position-map p q f (x ∷ xs) same =
    position-cons p (f x) (map f xs) ∙ ap (λ b. cond b (Some 0) (option_map suc (position p (map f xs)))) (same x)
    ∙ ap (λ o. cond (q x) (Some 0) (option_map suc o)) (position-map p q f xs same) ∙ sym (position-cons q x xs)

pub find-mapped : {X Y : Type 0} (p : Y → Bool) (q : X → Bool) (f : X → Y) (xs : List X)
    → ((x : X) → p (f x) ≡ q x) → find p (map f xs) ≡ option_map f (find q xs)
find-mapped p q f [] same = refl
find-mapped {X = X} {Y = Y} p q f (x ∷ xs) same = ap (λ b. cond b (Some (f x)) (find p (map f xs))) (same x) ∙ row (q x) _ _ (find-mapped p q f xs same)
  where
    row : (b : Bool) (o : Option Y) (found : Option X) → o ≡ option_map f found
        → cond b (Some (f x)) o ≡ option_map f (cond b (Some x) found)
    row true o found e = refl
    row false o found e = e

-- ---- what stands at a place

pub get_front : {X : Type 0} (xs ys : List X) (n : ℕ) → n < length xs
    → slice_get (xs ++ ys) n ≡ slice_get xs n
get_front [] ys n low = absurd (omega arith)
get_front (x ∷ xs) ys zero low = refl
get_front (x ∷ xs) ys (suc n) low = get_front xs ys n (omega arith)

pub get_last : {X : Type 0} (xs : List X) (y : X) → slice_get (xs ++ y ∷ []) (length xs) ≡ Some y
get_last [] y = refl
get_last (x ∷ xs) y = get_last xs y

pub get_within : {X : Type 0} (xs : List X) (n : ℕ) (x : X) → slice_get xs n ≡ Some x
    → n < length xs
get_within [] n x at = cc
get_within (y ∷ xs) zero x at = omega arith
get_within (y ∷ xs) (suc n) x at = omega (arith, get_within xs n x at)

-- what stands in a list with one more stood there, or is that one
pub get_push : {X : Type 0} (P : X → Type 0) (xs : List X) (y : X)
    → ((n : ℕ) (x : X) → slice_get xs n ≡ Some x → P x) → P y
    → (n : ℕ) (x : X) → slice_get (xs ++ y ∷ []) n ≡ Some x → P x
get_push P [] y all here zero x at =
    let same : y ≡ x = cc in
    subst P same here
get_push P [] y all here (suc n) x at = cc
get_push P (z ∷ xs) y all here zero x at = all zero x at
get_push P (z ∷ xs) y all here (suc n) x at = get_push P xs y (λ m w e. all (suc m) w e) here n x at

-- what a place within a list has
pub get_there : {X : Type 0} (xs : List X) (n : ℕ) → n < length xs → (x : X) × (slice_get xs n ≡ Some x)
get_there [] n low = absurd (omega arith)
get_there (x ∷ xs) zero low = (x, refl)
get_there (x ∷ xs) (suc n) low = get_there xs n (omega arith)
