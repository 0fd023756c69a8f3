-- Ids among lists of places: of some of them, of those that pass a test, and of lists one behind
-- the other.
use Rattle.std.proofs.Common.{◌≡◌, ◌∙◌, ℕ, ◌&&◌, ◌||◌, Bool, true, false, not, cond, List, [], ◌∷◌}
use Rattle.std.proofs.Common.{◌++◌, map, refl, sym, ap}
use Rattle.std.proofs.lemmas.Bool.{true≢false, and_parts, and_from, or_parts, or_from, not-true}
use Rattle.std.proofs.lemmas.Bool.{not_from_false}
use Rattle.std.proofs.lemmas.Slice.Eq.{bytes_eq-Decides}
use Rattle.std.specs.List.{filter}
use Rattle.std.specs.Str.{bytes_eq}
use Rattle.ticket_items.proofs.Apart.{bytes_eq-same, mem-append}
use Rattle.ticket_items.specs.Ids.{mem, are_distinct}

-- ---- lists of ids

pub mem_front : (x : List ℕ) (xs ys : List (List ℕ)) → mem x xs ≡ true → mem x (xs ++ ys) ≡ true
mem_front x xs ys there = mem-append x xs ys ∙ ap (λ b. b || mem x ys) there

or_right : (a b : Bool) → b ≡ true → (a || b) ≡ true
or_right true b h = refl
or_right false b h = h

pub mem_back : (x : List ℕ) (xs ys : List (List ℕ)) → mem x ys ≡ true → mem x (xs ++ ys) ≡ true
mem_back x xs ys there = mem-append x xs ys ∙ or_right (mem x xs) (mem x ys) there

pub out_of_both : (x : List ℕ) (xs ys : List (List ℕ)) → mem x (xs ++ ys) ≡ false
    → (mem x xs ≡ false) × (mem x ys ≡ false)
out_of_both x xs ys out = or_parts (mem x xs) (mem x ys) (sym (mem-append x xs ys) ∙ out)

pub distinct_front : (xs ys : List (List ℕ)) → are_distinct (xs ++ ys) ≡ true
    → are_distinct xs ≡ true
distinct_front [] ys apart = refl
distinct_front (x ∷ xs) ys apart =
    let parts = and_parts (not (mem x (xs ++ ys))) (are_distinct (xs ++ ys)) apart in
    and_from _ _ (not_from_false _ (out_of_both x xs ys (not-true _ parts.0)).0) (distinct_front xs ys parts.1)

pub distinct_back : (xs ys : List (List ℕ)) → are_distinct (xs ++ ys) ≡ true
    → are_distinct ys ≡ true
distinct_back [] ys apart = apart
distinct_back (x ∷ xs) ys apart = distinct_back xs ys (and_parts (not (mem x (xs ++ ys))) (are_distinct (xs ++ ys)) apart).1

-- an id of the one list isn't in the other
apart_at : (here : Bool) (x y : List ℕ) (ys : List (List ℕ)) → bytes_eq y x ≡ here
    → mem y ys ≡ false → (here ≡ false → mem x ys ≡ false) → mem x ys ≡ false
apart_at true x y ys e out go = ap (λ i. mem i ys) (sym ((bytes_eq-Decides y x).0 e)) ∙ out
apart_at false x y ys e out go = go refl

drop_here : (here there : Bool) → here ≡ false → (here || there) ≡ true → there ≡ true
drop_here false there e h = h
drop_here true there e h = cc

pub apart_lists : (x : List ℕ) (xs ys : List (List ℕ)) → are_distinct (xs ++ ys) ≡ true
    → mem x xs ≡ true → mem x ys ≡ false
apart_lists x [] ys apart there = cc
apart_lists x (y ∷ xs) ys apart there =
    let parts = and_parts (not (mem y (xs ++ ys))) (are_distinct (xs ++ ys)) apart in
    apart_at (bytes_eq y x) x y ys refl (out_of_both y xs ys (not-true _ parts.0)).1 (λ e. apart_lists x xs ys parts.1 (drop_here (bytes_eq y x) (mem x xs) e there))

-- no id of the one list is in the other
abbrev pub AreApart : List (List ℕ) → List (List ℕ) → Type 0
AreApart xs ys = (x : List ℕ) → mem x xs ≡ true → mem x ys ≡ false

not_among_at : (b : Bool) (x : List ℕ) (ys zs : List (List ℕ)) → mem x ys ≡ b → AreApart ys (x ∷ zs)
    → b ≡ false
not_among_at false x ys zs e other = refl
not_among_at true x ys zs e other = absurd (true≢false (sym (ap (λ b. b || mem x zs) (bytes_eq-same x)) ∙ other x e))

not_among : (x : List ℕ) (ys zs : List (List ℕ)) → AreApart ys (x ∷ zs) → mem x ys ≡ false
not_among x ys zs other = not_among_at (mem x ys) x ys zs refl other

-- distinct ids put between others
pub distinct_between : (xs ys zs : List (List ℕ)) → are_distinct (xs ++ zs) ≡ true
    → are_distinct ys ≡ true → AreApart ys (xs ++ zs) → are_distinct (xs ++ ys ++ zs) ≡ true
distinct_between [] [] zs apart own other = apart
distinct_between [] (y ∷ ys) zs apart own other =
    let parts = and_parts (not (mem y ys)) (are_distinct ys) own in
    let out = mem-append y ys zs ∙ or_from _ _ (not-true _ parts.0) (other y (ap (λ b. b || mem y ys) (bytes_eq-same y))) in
    and_from _ _ (not_from_false _ out) (distinct_between [] ys zs apart parts.1 (λ x there. other x (or_right (bytes_eq y x) (mem x ys) there)))
distinct_between (x ∷ xs) ys zs apart own other =
    let parts = and_parts (not (mem x (xs ++ zs))) (are_distinct (xs ++ zs)) apart in
    let split = out_of_both x xs zs (not-true _ parts.0) in
    and_from _ _ (not_from_false _ (mem-append x (xs ++ ys) zs ∙ or_from _ _ (mem-append x xs ys ∙ or_from _ _ split.0 (not_among x ys (xs ++ zs) other)) split.1))
    (distinct_between xs ys zs parts.1 own (λ i there. (or_parts (bytes_eq x i) (mem i (xs ++ zs)) (other i there)).1))

-- ---- keys of lists

kept_at : {X : Type 0} (b : Bool) (key : X → List ℕ) (f : X → Bool) (y : X) (xs : List X)
    (x : List ℕ)
    → bytes_eq (key y) x ≡ false → mem x (map key (filter f xs)) ≡ false
    → mem x (map key (cond b (y ∷ filter f xs) (filter f xs))) ≡ false
kept_at true key f y xs x e out = or_from _ _ e out
kept_at false key f y xs x e out = out

distinct_at : {X : Type 0} (b : Bool) (key : X → List ℕ) (f : X → Bool) (y : X) (xs : List X)
    → mem (key y) (map key (filter f xs)) ≡ false → are_distinct (map key (filter f xs)) ≡ true
    → are_distinct (map key (cond b (y ∷ filter f xs) (filter f xs))) ≡ true
distinct_at true key f y xs out apart = and_from _ _ (not_from_false _ out) apart
distinct_at false key f y xs out apart = apart

and_none : (b : Bool) → (b && false) ≡ false
and_none true = refl
and_none false = refl

keys_at : {X : Type 0} (b here : Bool) (key : X → List ℕ) (p : List ℕ → Bool) (y : X) (xs : List X)
    (x : List ℕ)
    → p (key y) ≡ b → bytes_eq (key y) x ≡ here
    → mem x (map key (filter (λ z. p (key z)) xs)) ≡ (p x && mem x (map key xs))
    → mem x (map key (cond b (y ∷ filter (λ z. p (key z)) xs) (filter (λ z. p (key z)) xs)))
    ≡ (p x && (here || mem x (map key xs)))
keys_at true true key p y xs x e f go =
    ap (λ b. b || mem x (map key (filter (λ z. p (key z)) xs))) f ∙ sym (ap (λ b. b && true) (sym (ap p ((bytes_eq-Decides (key y) x).0 f)) ∙ e))
keys_at true false key p y xs x e f go = ap (λ b. b || mem x (map key (filter (λ z. p (key z)) xs))) f ∙ go
keys_at false true key p y xs x e f go =
    let fails : p x ≡ false = sym (ap p ((bytes_eq-Decides (key y) x).0 f)) ∙ e in
    go ∙ ap (λ b. b && mem x (map key xs)) fails ∙ sym (ap (λ b. b && true) fails)
keys_at false false key p y xs x e f go = go

-- those that pass a test have their keys among all keys
pub kept_among : {X : Type 0} (key : X → List ℕ) (f : X → Bool) (xs : List X) (x : List ℕ)
    → mem x (map key xs) ≡ false → mem x (map key (filter f xs)) ≡ false
kept_among key f [] x out = refl
kept_among key f (y ∷ xs) x out =
    let parts = or_parts (bytes_eq (key y) x) (mem x (map key xs)) out in
    kept_at (f y) key f y xs x parts.0 (kept_among key f xs x parts.1)

pub distinct_kept : {X : Type 0} (key : X → List ℕ) (f : X → Bool) (xs : List X)
    → are_distinct (map key xs) ≡ true → are_distinct (map key (filter f xs)) ≡ true
distinct_kept key f [] apart = refl
distinct_kept key f (y ∷ xs) apart =
    let parts = and_parts (not (mem (key y) (map key xs))) (are_distinct (map key xs)) apart in
    distinct_at (f y) key f y xs (kept_among key f xs (key y) (not-true _ parts.0)) (distinct_kept key f xs parts.1)

-- where the test is one of the key, the keys of those that pass are the keys that do
pub kept_keys : {X : Type 0} (key : X → List ℕ) (p : List ℕ → Bool) (xs : List X) (x : List ℕ)
    → mem x (map key (filter (λ y. p (key y)) xs)) ≡ (p x && mem x (map key xs))
kept_keys key p [] x = sym (and_none (p x))
kept_keys key p (y ∷ xs) x = keys_at (p (key y)) (bytes_eq (key y) x) key p y xs x refl refl (kept_keys key p xs x)
