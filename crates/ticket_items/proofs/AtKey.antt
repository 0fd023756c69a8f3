-- A write at the place of a key is a change of what has that key, where keys are apart.
use Rattle.std.proofs.Common.{◌≡◌, ℕ, zero, suc, ◌||◌, Bool, true, false, cond, List, [], ◌∷◌, map, Option, Some, None, refl, sym, ap, ◌∙◌, set, get_or, slice_get}
use Rattle.std.proofs.lemmas.Bool.{and_parts, or_parts, not-true}
use Rattle.std.proofs.lemmas.Option.{slice_get-get_or}
use Rattle.std.proofs.lemmas.Slice.Eq.{bytes_eq-Decides}
use Rattle.std.specs.List.{find, list_any, position}
use Rattle.std.specs.Option.{option_map}
use Rattle.std.specs.Str.{bytes_eq}
use Rattle.ticket_items.proofs.Places.{position-cons, below_length, none_at_position}
use Rattle.ticket_items.specs.Ids.{mem, are_distinct}

-- the list, with f of each that has the key
abbrev pub at_key : {X : Type 0} → (X → List ℕ) → List ℕ → (X → X) → List X → List X
at_key key x f xs = map (λ y. cond (bytes_eq (key y) x) (f y) y) xs

-- whether something has the key
pub any_key : {X : Type 0} (key : X → List ℕ) (x : List ℕ) (xs : List X) → list_any (λ y. bytes_eq (key y) x) xs ≡ mem x (map key xs)
any_key key x [] = refl
any_key key x (y ∷ xs) = ap (λ b. bytes_eq (key y) x || b) (any_key key x xs)

-- a key that isn't there changes nothing
pub at_key-none : {X : Type 0} (key : X → List ℕ) (x : List ℕ) (f : X → X) (xs : List X) → mem x (map key xs) ≡ false → at_key key x f xs ≡ xs
at_key-none key x f [] out = refl
at_key-none key x f (y ∷ xs) out =
    let parts = or_parts (bytes_eq (key y) x) (mem x (map key xs)) out in
    ap (λ b. cond b (f y) y ∷ at_key key x f xs) parts.0 ∙ ap (λ ys. y ∷ ys) (at_key-none key x f xs parts.1)

set_here : {X : Type 0} (here : Bool) (later : Option ℕ) (key : X → List ℕ) (x : List ℕ) (f : X → X) (y : X) (xs : List X) (k : ℕ) (s : X) → bytes_eq (key y) x ≡ here → cond here (Some 0) (option_map suc later) ≡ Some k → slice_get (y ∷ xs) k ≡ Some s → mem (key y) (map key xs) ≡ false
    → ((j : ℕ) → later ≡ Some j → slice_get xs j ≡ Some s → set xs j (f s) ≡ at_key key x f xs) → set (y ∷ xs) k (f s) ≡ at_key key x f (y ∷ xs)
set_here true later key x f y xs zero s e found at out go =
    let same : y ≡ s = cc in
    let named : key y ≡ x = (bytes_eq-Decides (key y) x).0 e in
    ap (λ z. f z ∷ xs) (sym same) ∙ ap (λ zs. f y ∷ zs) (sym (at_key-none key x f xs (ap (λ i. mem i (map key xs)) (sym named) ∙ out))) ∙ ap (λ b. cond b (f y) y ∷ at_key key x f xs) (sym e)
set_here true later key x f y xs (suc k) s e found at out go = cc
set_here false None key x f y xs k s e found at out go = cc
set_here false (Some j) key x f y xs zero s e found at out go = cc
set_here false (Some j) key x f y xs (suc k) s e found at out go =
    let next : k ≡ j = cc in
    let rest : set xs k (f s) ≡ at_key key x f xs = ap (λ i. set xs i (f s)) next ∙ go j refl (ap (slice_get xs) (sym next) ∙ at) in
    ap (λ zs. y ∷ zs) rest ∙ ap (λ b. cond b (f y) y ∷ at_key key x f xs) (sym e)

pub set-at_key : {X : Type 0} (key : X → List ℕ) (x : List ℕ) (f : X → X) (xs : List X) (k : ℕ) (s : X) → are_distinct (map key xs) ≡ true → position (λ y. bytes_eq (key y) x) xs ≡ Some k → slice_get xs k ≡ Some s → set xs k (f s) ≡ at_key key x f xs
set-at_key key x f [] k s apart found at = cc
set-at_key key x f (y ∷ xs) k s apart found at =
    let parts = and_parts _ _ apart in
    set_here (bytes_eq (key y) x) (position (λ z. bytes_eq (key z) x) xs) key x f y xs k s refl (sym (position-cons (λ z. bytes_eq (key z) x) y xs) ∙ found) at (not-true _ parts.0) (λ j e a. set-at_key key x f xs j s parts.1 e a)

-- a write of f at the place that was found in the list as it was seen
pub write_at_key : {X : Type 0} (key : X → List ℕ) (x : List ℕ) (f : X → X) (xs seen : List X) (k : ℕ) (s : X) → seen ≡ xs → are_distinct (map key xs) ≡ true → position (λ y. bytes_eq (key y) x) seen ≡ Some k → s ≡ get_or xs k s → set xs k (f s) ≡ at_key key x f xs
write_at_key key x f xs seen k s same apart found is =
    let here : position (λ y. bytes_eq (key y) x) xs ≡ Some k = ap (position (λ y. bytes_eq (key y) x)) (sym same) ∙ found in
    set-at_key key x f xs k s apart here (slice_get-get_or xs k s (below_length (λ y. bytes_eq (key y) x) xs k here) ∙ ap Some (sym is))

some_row : {X : Type 0} (b : Bool) (x : X) (o : Option X) (c : Bool) → o ≡ None → (o ≡ None → c ≡ false) → cond b (Some x) o ≡ None → (b || c) ≡ false
some_row true x o c none later e = cc
some_row false x o c none later e = later none

row_none : {X : Type 0} (b : Bool) (x : X) (o : Option X) → cond b (Some x) o ≡ None → o ≡ None
row_none true x o e = cc
row_none false x o e = e

mem-none : {X : Type 0} (key : X → List ℕ) (x : List ℕ) (xs : List X) → find (λ y. bytes_eq (key y) x) xs ≡ None → mem x (map key xs) ≡ false
mem-none key x [] e = refl
mem-none key x (y ∷ xs) e =
    let later = row_none (bytes_eq (key y) x) y (find (λ z. bytes_eq (key z) x) xs) e in
    some_row (bytes_eq (key y) x) y (find (λ z. bytes_eq (key z) x) xs) (mem x (map key xs)) later (λ n. mem-none key x xs n) e

-- where nothing has the key, nothing changes
pub unwritten : {X : Type 0} (key : X → List ℕ) (x : List ℕ) (f : X → X) (xs seen : List X) → seen ≡ xs → position (λ y. bytes_eq (key y) x) seen ≡ None → at_key key x f xs ≡ xs
unwritten key x f xs seen same none =
    at_key-none key x f xs (mem-none key x xs (none_at_position (λ y. bytes_eq (key y) x) xs (ap (position (λ y. bytes_eq (key y) x)) (sym same) ∙ none)))
