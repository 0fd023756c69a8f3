-- What is found behind a place, or else in front of it, is what is found from the front, where keys are apart.
use Rattle.std.proofs.Common.{◌≡◌, ℕ, suc, ◌+◌, Bool, true, false, cond, List, [], ◌∷◌, ◌++◌, length, map, Option, Some, None, is_some, sym, ap, ◌∙◌, arith}
use Rattle.std.proofs.lemmas.Bool.{or_parts}
use Rattle.std.proofs.lemmas.List.{map-append}
use Rattle.std.specs.List.{list_any, position}
use Rattle.std.specs.Option.{option_map}
use Rattle.std.specs.Prelude.{IfSome}
use Rattle.std.specs.Str.{bytes_eq}
use Rattle.ticket_items.proofs.Apart.{not_in_front}
use Rattle.ticket_items.proofs.AtKey.{any_key}
use Rattle.ticket_items.proofs.Places.{position-cons, found_at_position, is_some-find}
use Rattle.ticket_items.specs.Ids.{mem, are_distinct}

-- ---- in two lists

pub in_front : {X : Type 0} (p : X → Bool) (xs ys : List X) → position p ys ≡ None → position p (xs ++ ys) ≡ position p xs
in_front p [] ys none = none
in_front p (x ∷ xs) ys none = position-cons p x (xs ++ ys) ∙ ap (λ o. cond (p x) (Some 0) (option_map suc o)) (in_front p xs ys none) ∙ sym (position-cons p x xs)

pub behind : {X : Type 0} (p : X → Bool) (xs ys : List X) (k : ℕ) → list_any p xs ≡ false → position p ys ≡ Some k → position p (xs ++ ys) ≡ Some (length xs + k)
behind p [] ys k out found = found ∙ ap Some (omega arith)
behind p (x ∷ xs) ys k out found =
    let parts = or_parts (p x) (list_any p xs) out in
    position-cons p x (xs ++ ys) ∙ ap (λ b. cond b (Some 0) (option_map suc (position p (xs ++ ys)))) parts.0 ∙ ap (option_map suc) (behind p xs ys k parts.1 found) ∙ ap Some (omega arith)

pub some_passes : {X : Type 0} (p : X → Bool) (xs : List X) (k : ℕ) → position p xs ≡ Some k → list_any p xs ≡ true
some_passes p xs k found = sym (is_some-find p xs) ∙ ap is_some (found_at_position p xs k found).1

-- ---- by a key

pub key_in_front : {X : Type 0} (key : X → List ℕ) (x : List ℕ) (all front later : List X) → all ≡ front ++ later → position (λ y. bytes_eq (key y) x) later ≡ None → position (λ y. bytes_eq (key y) x) front ≡ position (λ y. bytes_eq (key y) x) all
key_in_front key x all front later whole none = sym (ap (position (λ y. bytes_eq (key y) x)) whole ∙ in_front (λ y. bytes_eq (key y) x) front later none)

pub key_behind : {X : Type 0} (key : X → List ℕ) (x : List ℕ) (all front later : List X) (k : ℕ) → all ≡ front ++ later → are_distinct (map key all) ≡ true → position (λ y. bytes_eq (key y) x) later ≡ Some k → Some (length front + k) ≡ position (λ y. bytes_eq (key y) x) all
key_behind key x all front later k whole apart found =
    let keys : are_distinct (map key front ++ map key later) ≡ true = ap are_distinct (sym (ap (map key) whole ∙ map-append key front later)) ∙ apart in
    let there : mem x (map key later) ≡ true = sym (any_key key x later) ∙ some_passes (λ y. bytes_eq (key y) x) later k found in
    sym (ap (position (λ y. bytes_eq (key y) x)) whole ∙ behind (λ y. bytes_eq (key y) x) front later k (any_key key x front ∙ not_in_front x (map key front) (map key later) keys there) found)

-- ---- the place that is told

pub at_place : (o : Option ℕ) (k : ℕ) → o ≡ Some k → IfSome o (λ j. k ≡ j)
at_place None k e = tt
at_place (Some j) k e = cc

pub at_no_place : (o : Option ℕ) (k : ℕ) → o ≡ None → IfSome o (λ j. k ≡ j)
at_no_place None k e = tt
at_no_place (Some j) k e = cc
