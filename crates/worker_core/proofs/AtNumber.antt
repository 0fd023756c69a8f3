-- What has a number in a list where numbers are apart: a write at its place is a change of what has the number.
use Rattle.std.proofs.Common.{◌≡◌, ℕ, zero, suc, ◌==◌, ◌||◌, Bool, true, false, cond, List, [], ◌∷◌, ◌++◌, map, Option, Some, None, refl, sym, ap, ◌∙◌, set, get_or, slice_get, subst}
use Rattle.std.proofs.lemmas.Bool.{and_parts, and_from, or_parts, or_from, not-true, not_from_false, eqb-true, eqb-false, ne_eqb}
use Rattle.std.proofs.lemmas.List.Elements.{All-cons, All-head, All-map, All-same, All-tail, All-weaker}
use Rattle.std.proofs.lemmas.Option.{slice_get-get_or}
use Rattle.std.specs.List.{All, find, list_any, position}
use Rattle.std.specs.Option.{option_map}
use Rattle.ticket_items.proofs.Places.{below_length, found_at_position, position-cons, same_found}
use Rattle.worker_core.specs.Numbers.{are_distinct_numbers, has_number}

-- the list, with f of each that has the number
abbrev pub at_number : {X : Type 0} → (X → ℕ) → ℕ → (X → X) → List X → List X
at_number key n f xs = map (λ y. cond (key y == n) (f y) y) xs

-- whether something has the number
pub any_number : {X : Type 0} (key : X → ℕ) (n : ℕ) (xs : List X) → list_any (λ y. key y == n) xs ≡ has_number n (map key xs)
any_number key n [] = refl
any_number key n (y ∷ xs) = ap (λ b. (key y == n) || b) (any_number key n xs)

-- a number that isn't there changes nothing
pub at_number-none : {X : Type 0} (key : X → ℕ) (n : ℕ) (f : X → X) (xs : List X) → has_number n (map key xs) ≡ false → at_number key n f xs ≡ xs
at_number-none key n f [] out = refl
at_number-none key n f (y ∷ xs) out =
    let parts = or_parts (key y == n) (has_number n (map key xs)) out in
    ap (λ b. cond b (f y) y ∷ at_number key n f xs) parts.0 ∙ ap (λ ys. y ∷ ys) (at_number-none key n f xs parts.1)

-- behind the first that has the number nothing has it
none_behind : {X : Type 0} (key : X → ℕ) (n : ℕ) (f : X → X) (y : X) (xs : List X) → (key y == n) ≡ true → has_number (key y) (map key xs) ≡ false → at_number key n f xs ≡ xs
none_behind key n f y xs here out = at_number-none key n f xs (ap (λ i. has_number i (map key xs)) (sym (eqb-true (key y) n here)) ∙ out)

-- ---- a write at the place

set_here : {X : Type 0} (here : Bool) (later : Option ℕ) (key : X → ℕ) (n : ℕ) (f : X → X) (y : X) (xs : List X) (k : ℕ) (s : X) → (key y == n) ≡ here → cond here (Some 0) (option_map suc later) ≡ Some k → slice_get (y ∷ xs) k ≡ Some s
    → has_number (key y) (map key xs) ≡ false → ((j : ℕ) → later ≡ Some j → slice_get xs j ≡ Some s → set xs j (f s) ≡ at_number key n f xs) → set (y ∷ xs) k (f s) ≡ at_number key n f (y ∷ xs)
set_here true later key n f y xs zero s e found at out go =
    let same : y ≡ s = cc in
    ap (λ z. f z ∷ xs) (sym same) ∙ ap (λ zs. f y ∷ zs) (sym (none_behind key n f y xs e out)) ∙ ap (λ b. cond b (f y) y ∷ at_number key n f xs) (sym e)
set_here true later key n f y xs (suc k) s e found at out go = cc
set_here false None key n f y xs k s e found at out go = cc
set_here false (Some j) key n f y xs zero s e found at out go = cc
set_here false (Some j) key n f y xs (suc k) s e found at out go =
    let next : k ≡ j = cc in
    let rest : set xs k (f s) ≡ at_number key n f xs = ap (λ i. set xs i (f s)) next ∙ go j refl (ap (slice_get xs) (sym next) ∙ at) in
    ap (λ zs. y ∷ zs) rest ∙ ap (λ b. cond b (f y) y ∷ at_number key n f xs) (sym e)

pub set-at_number : {X : Type 0} (key : X → ℕ) (n : ℕ) (f : X → X) (xs : List X) (k : ℕ) (s : X) → are_distinct_numbers (map key xs) ≡ true → position (λ y. key y == n) xs ≡ Some k → slice_get xs k ≡ Some s → set xs k (f s) ≡ at_number key n f xs
set-at_number key n f [] k s apart found at = cc
set-at_number key n f (y ∷ xs) k s apart found at =
    let parts = and_parts _ _ apart in
    set_here (key y == n) (position (λ z. key z == n) xs) key n f y xs k s refl (sym (position-cons (λ z. key z == n) y xs) ∙ found) at (not-true _ parts.0) (λ j e a. set-at_number key n f xs j s parts.1 e a)

-- what stands at the place that was found is what is found
pub found_there : {X : Type 0} (key : X → ℕ) (n : ℕ) (xs : List X) (k : ℕ) (s : X) → position (λ y. key y == n) xs ≡ Some k → s ≡ get_or xs k s → find (λ y. key y == n) xs ≡ Some s
found_there key n xs k s found is =
    let at = found_at_position (λ y. key y == n) xs k found in
    at.1 ∙ ap Some (same_found at.0 s (slice_get xs k) at.2 (slice_get-get_or xs k s (below_length (λ y. key y == n) xs k found) ∙ ap Some (sym is)))

-- a write of f at the place that was found
pub write_at_number : {X : Type 0} (key : X → ℕ) (n : ℕ) (f : X → X) (xs : List X) (k : ℕ) (s : X) → are_distinct_numbers (map key xs) ≡ true → position (λ y. key y == n) xs ≡ Some k → s ≡ get_or xs k s → set xs k (f s) ≡ at_number key n f xs
write_at_number key n f xs k s apart found is =
    set-at_number key n f xs k s apart found (slice_get-get_or xs k s (below_length (λ y. key y == n) xs k found) ∙ ap Some (sym is))

-- ---- after a change that keeps numbers

pub numbers_stay : {X : Type 0} (key : X → ℕ) (n : ℕ) (f : X → X) (xs : List X) → ((y : X) → key (f y) ≡ key y) → map key (at_number key n f xs) ≡ map key xs
numbers_stay key n f [] keeps = refl
numbers_stay key n f (y ∷ xs) keeps = ap (λ k. k ∷ map key (at_number key n f xs)) (key_here (key y == n)) ∙ ap (λ ks. key y ∷ ks) (numbers_stay key n f xs keeps)
  where
    key_here : (b : Bool) → key (cond b (f y) y) ≡ key y
    key_here true = keeps y
    key_here false = refl

find_here : {X : Type 0} (here : Bool) (key : X → ℕ) (n : ℕ) (f : X → X) (y : X) (xs : List X) → key (f y) ≡ key y → (key y == n) ≡ here → find (λ z. key z == n) (at_number key n f xs) ≡ option_map f (find (λ z. key z == n) xs)
    → find (λ z. key z == n) (at_number key n f (y ∷ xs)) ≡ option_map f (find (λ z. key z == n) (y ∷ xs))
find_here true key n f y xs keeps e rest =
    ap (λ b. find (λ z. key z == n) (cond b (f y) y ∷ at_number key n f xs)) e
    ∙ ap (λ k. cond (k == n) (Some (f y)) (find (λ z. key z == n) (at_number key n f xs))) keeps
    ∙ ap (λ b. cond b (Some (f y)) (find (λ z. key z == n) (at_number key n f xs))) e
    ∙ sym (ap (λ b. option_map f (cond b (Some y) (find (λ z. key z == n) xs))) e)
find_here false key n f y xs keeps e rest =
    ap (λ b. find (λ z. key z == n) (cond b (f y) y ∷ at_number key n f xs)) e
    ∙ ap (λ b. cond b (Some y) (find (λ z. key z == n) (at_number key n f xs))) e
    ∙ rest
    ∙ sym (ap (λ b. option_map f (cond b (Some y) (find (λ z. key z == n) xs))) e)

-- what has the number is changed
pub find-at_number : {X : Type 0} (key : X → ℕ) (n : ℕ) (f : X → X) (xs : List X) → ((y : X) → key (f y) ≡ key y) → find (λ y. key y == n) (at_number key n f xs) ≡ option_map f (find (λ y. key y == n) xs)
find-at_number key n f [] keeps = refl
find-at_number key n f (y ∷ xs) keeps = find_here (key y == n) key n f y xs (keeps y) refl (find-at_number key n f xs keeps)

other_here : {X : Type 0} (m n : ℕ) (this that : Bool) (key : X → ℕ) (f : X → X) (y : X) (xs : List X) → (m == n) ≡ false → key (f y) ≡ key y → (key y == n) ≡ this → (key y == m) ≡ that → find (λ z. key z == m) (at_number key n f xs) ≡ find (λ z. key z == m) xs
    → find (λ z. key z == m) (at_number key n f (y ∷ xs)) ≡ find (λ z. key z == m) (y ∷ xs)
other_here m n true true key f y xs apart keeps e e' rest =
    let one : key y ≡ n = eqb-true (key y) n e in
    let two : key y ≡ m = eqb-true (key y) m e' in
    absurd (eqb-false m n apart (sym two ∙ one))
other_here m n true false key f y xs apart keeps e e' rest =
    ap (λ b. find (λ z. key z == m) (cond b (f y) y ∷ at_number key n f xs)) e
    ∙ ap (λ k. cond (k == m) (Some (f y)) (find (λ z. key z == m) (at_number key n f xs))) keeps
    ∙ ap (λ b. cond b (Some (f y)) (find (λ z. key z == m) (at_number key n f xs))) e'
    ∙ rest
    ∙ sym (ap (λ b. cond b (Some y) (find (λ z. key z == m) xs)) e')
other_here m n false that key f y xs apart keeps e e' rest =
    ap (λ b. find (λ z. key z == m) (cond b (f y) y ∷ at_number key n f xs)) e
    ∙ ap (λ o. cond (key y == m) (Some y) o) rest

-- what has another number isn't
pub find-other : {X : Type 0} (m n : ℕ) (key : X → ℕ) (f : X → X) (xs : List X) → (m == n) ≡ false → ((y : X) → key (f y) ≡ key y) → find (λ y. key y == m) (at_number key n f xs) ≡ find (λ y. key y == m) xs
find-other m n key f [] apart keeps = refl
find-other m n key f (y ∷ xs) apart keeps = other_here m n (key y == n) (key y == m) key f y xs apart (keeps y) refl refl (find-other m n key f xs apart keeps)

-- ---- what holds of each

all_here : {X : Type 0} (here : Bool) (P : X → Type 0) (key : X → ℕ) (n : ℕ) (f : X → X) (y : X) (xs : List X) (s : X) → (key y == n) ≡ here → cond here (Some y) (find (λ z. key z == n) xs) ≡ Some s → has_number (key y) (map key xs) ≡ false → P (f s) → P y → All P xs
    → (find (λ z. key z == n) xs ≡ Some s → All P (at_number key n f xs)) → All P (at_number key n f (y ∷ xs))
all_here true P key n f y xs s e found out changed own rest go =
    let same : y ≡ s = cc in
    let told : at_number key n f (y ∷ xs) ≡ f s ∷ xs = ap (λ b. cond b (f y) y ∷ at_number key n f xs) e ∙ ap (λ z. f z ∷ at_number key n f xs) same ∙ ap (λ zs. f s ∷ zs) (none_behind key n f y xs e out) in
    All-same P (at_number key n f (y ∷ xs)) (f s ∷ xs) told (All-cons P (f s) xs changed rest)
all_here false P key n f y xs s e found out changed own rest go =
    let told : at_number key n f (y ∷ xs) ≡ y ∷ at_number key n f xs = ap (λ b. cond b (f y) y ∷ at_number key n f xs) e in
    All-same P (at_number key n f (y ∷ xs)) (y ∷ at_number key n f xs) told (All-cons P y (at_number key n f xs) own (go found))

-- what holds of each, and of what is found once it is changed, holds of each then
pub All-at_number : {X : Type 0} (P : X → Type 0) (key : X → ℕ) (n : ℕ) (f : X → X) (xs : List X) (s : X) → are_distinct_numbers (map key xs) ≡ true → find (λ y. key y == n) xs ≡ Some s → P (f s) → All P xs → All P (at_number key n f xs)
All-at_number P key n f [] s apart found changed all = all
All-at_number P key n f (y ∷ xs) s apart found changed all =
    let parts = and_parts _ _ apart in
    all_here (key y == n) P key n f y xs s refl found (not-true _ parts.0) changed (All-head P y xs all) (All-tail P y xs all) (λ e. All-at_number P key n f xs s parts.1 e changed (All-tail P y xs all))

-- what holds of each, and stays once that is changed, holds of each then
pub All-each_at_number : {X : Type 0} (P : X → Type 0) (key : X → ℕ) (n : ℕ) (f : X → X) (xs : List X) → ((y : X) → (key y == n) ≡ true → P y → P (f y)) → All P xs → All P (at_number key n f xs)
All-each_at_number P key n f xs stays all = All-map P (λ y. cond (key y == n) (f y) y) xs (All-weaker P (λ y. P (cond (key y == n) (f y) y)) (λ y own. either P (key y == n) y (f y) own (λ here. stays y here own)) xs all)
  where
    either : {X : Type 0} (P : X → Type 0) (b : Bool) (y z : X) → P y → (b ≡ true → P z) → P (cond b z y)
    either P true y z own changed = changed refl
    either P false y z own changed = own

-- what is found has what holds of each
pub found_holds : {X : Type 0} (P : X → Type 0) (p : X → Bool) (xs : List X) (s : X) → find p xs ≡ Some s → All P xs → P s
found_holds P p [] s found all = cc
found_holds P p (y ∷ xs) s found all = found_row (p y) P p y xs s refl found (All-head P y xs all) (λ e. found_holds P p xs s e (All-tail P y xs all))
  where
    found_row : {X : Type 0} (here : Bool) (P : X → Type 0) (p : X → Bool) (y : X) (xs : List X) (s : X) → p y ≡ here → cond here (Some y) (find p xs) ≡ Some s → P y → (find p xs ≡ Some s → P s) → P s
    found_row true P p y xs s e found own go =
        let same : y ≡ s = cc in
        subst P same own
    found_row false P p y xs s e found own go = go found

-- ---- one more

pub has_number-push : (m n : ℕ) (ns : List ℕ) → has_number m ns ≡ false → (n == m) ≡ false → has_number m (ns ++ n ∷ []) ≡ false
has_number-push m n [] out e = or_from (n == m) false e refl
has_number-push m n (k ∷ ns) out e =
    let parts = or_parts (k == m) (has_number m ns) out in
    or_from (k == m) (has_number m (ns ++ n ∷ [])) parts.0 (has_number-push m n ns parts.1 e)

pub turned : (a b : ℕ) → (a == b) ≡ false → (b == a) ≡ false
turned a b e = ne_eqb b a (λ same. eqb-false a b e (sym same))

pub distinct-push : (n : ℕ) (ns : List ℕ) → are_distinct_numbers ns ≡ true → has_number n ns ≡ false → are_distinct_numbers (ns ++ n ∷ []) ≡ true
distinct-push n [] apart out = refl
distinct-push n (k ∷ ns) apart out =
    let parts = and_parts _ _ apart in
    let new = or_parts (k == n) (has_number n ns) out in
    and_from _ _ (not_from_false _ (has_number-push k n ns (not-true _ parts.0) (turned k n new.0))) (distinct-push n ns parts.1 new.1)

-- what is found stays found
pub find-push : {X : Type 0} (p : X → Bool) (xs ys : List X) (s : X) → find p xs ≡ Some s → find p (xs ++ ys) ≡ Some s
find-push p [] ys s found = cc
find-push p (y ∷ xs) ys s found = push_row (p y) y (find p xs) (find p (xs ++ ys)) s found (find-push p xs ys s)
  where
    push_row : {X : Type 0} (here : Bool) (y : X) (old new : Option X) (s : X) → cond here (Some y) old ≡ Some s → (old ≡ Some s → new ≡ Some s) → cond here (Some y) new ≡ Some s
    push_row true y old new s found go = found
    push_row false y old new s found go = go found

-- what isn't found is looked for behind
pub find-behind : {X : Type 0} (p : X → Bool) (xs ys : List X) → find p xs ≡ None → find p (xs ++ ys) ≡ find p ys
find-behind p [] ys none = refl
find-behind p (y ∷ xs) ys none = behind_row (p y) y (find p xs) (find p (xs ++ ys)) (find p ys) none (find-behind p xs ys)
  where
    behind_row : {X : Type 0} (here : Bool) (y : X) (old new rest : Option X) → cond here (Some y) old ≡ None → (old ≡ None → new ≡ rest) → cond here (Some y) new ≡ rest
    behind_row true y old new rest none go = cc
    behind_row false y old new rest none go = go none
