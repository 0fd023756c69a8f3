-- No two spawns that are out claim one place just where each place is held at most once.
use Rattle.std.proofs.Common.{◌≡◌, ◌∙◌, ℕ, zero, suc, ◌≤◌, Bool, true, false, cond, List, []}
use Rattle.std.proofs.Common.{◌∷◌, length, Some, slice_get, refl, sym, ap, arith}
use Rattle.std.proofs.lemmas.Bool.{true≢false, and_from, and_parts, leb-true, le-leb}
use Rattle.std.specs.List.{filter, list_all}
use Rattle.std.specs.Option.{option_map_or}
use Rattle.ticket_items.specs.declared.node_row.NodeRow.{NodeRow}
use Rattle.ticket_rows.specs.Place.{Place, place_at, places}
use Rattle.ticket_rows.specs.Ticket.{IsValid}
use Rattle.spawn.proofs.Chosen.{AllOwn, all_own}
use Rattle.spawn.proofs.GoodTest.{all_good, good_each}
use Rattle.spawn.proofs.Outside.{all_found}
use Rattle.spawn.proofs.Standing.{ids_apart}
use Rattle.spawn.specs.Stored.{StandingIsATest, are_apart, are_good, is_held_once}
use Rattle.spawn.specs.Table.{holds}
use Rattle.spawn.specs.declared.records.spawn_rec.SpawnRec.{SpawnRec}

-- ---- what passes a test at most once

passes : (f : SpawnRec → Bool) (x r : SpawnRec) → Some x ≡ Some r → f x ≡ f r
passes f x r e = ap (λ o. option_map_or f o (f x)) e

none_at : (here : Bool) (f : SpawnRec → Bool) (x : SpawnRec) (xs : List SpawnRec) (k : ℕ)
    (r : SpawnRec)
    → f x ≡ here → length (cond here (x ∷ filter f xs) (filter f xs)) ≤ 0
    → slice_get (x ∷ xs) k ≡ Some r → f r ≡ true
    → (length (filter f xs) ≤ 0 → (j : ℕ) → slice_get xs j ≡ Some r → ⊥) → ⊥
none_at true f x xs k r e none at own go =
    let long : suc (length (filter f xs)) ≤ 0 = none in
    omega arith
none_at false f x xs zero r e none at own go = true≢false (sym own ∙ sym (passes f x r at) ∙ e)
none_at false f x xs (suc k) r e none at own go = go none k at

none_there : (f : SpawnRec → Bool) (xs : List SpawnRec) (k : ℕ) (r : SpawnRec)
    → length (filter f xs) ≤ 0 → slice_get xs k ≡ Some r → f r ≡ true → ⊥
none_there f [] k r none at own = cc
none_there f (x ∷ xs) k r none at own = none_at (f x) f x xs k r refl none at own (λ later j there. none_there f xs j r later there own)

once_at : (here : Bool) (f : SpawnRec → Bool) (x : SpawnRec) (xs : List SpawnRec) (j k : ℕ)
    (r q : SpawnRec)
    → f x ≡ here → length (cond here (x ∷ filter f xs) (filter f xs)) ≤ 1
    → slice_get (x ∷ xs) j ≡ Some r → slice_get (x ∷ xs) k ≡ Some q → f r ≡ true → f q ≡ true
    → (length (filter f xs) ≤ 1 → (i l : ℕ) → slice_get xs i ≡ Some r → slice_get xs l ≡ Some q
    → i ≡ l)
    → j ≡ k
once_at here f x xs zero zero r q e once at_r at_q own_r own_q go = refl
once_at true f x xs zero (suc k) r q e once at_r at_q own_r own_q go =
    let long : suc (length (filter f xs)) ≤ 1 = once in
    absurd (none_there f xs k q (omega arith) at_q own_q)
once_at true f x xs (suc j) k r q e once at_r at_q own_r own_q go =
    let long : suc (length (filter f xs)) ≤ 1 = once in
    absurd (none_there f xs j r (omega arith) at_r own_r)
once_at false f x xs zero (suc k) r q e once at_r at_q own_r own_q go = absurd (true≢false (sym own_r ∙ sym (passes f x r at_r) ∙ e))
once_at false f x xs (suc j) zero r q e once at_r at_q own_r own_q go = absurd (true≢false (sym own_q ∙ sym (passes f x q at_q) ∙ e))
once_at false f x xs (suc j) (suc k) r q e once at_r at_q own_r own_q go = ap suc (go once j k at_r at_q)

once_alone : (f : SpawnRec → Bool) (xs : List SpawnRec) (j k : ℕ) (r q : SpawnRec)
    → length (filter f xs) ≤ 1 → slice_get xs j ≡ Some r → slice_get xs k ≡ Some q
    → f r ≡ true → f q ≡ true → j ≡ k
once_alone f [] j k r q once at_r at_q own_r own_q = cc
once_alone f (x ∷ xs) j k r q once at_r at_q own_r own_q =
    once_at (f x) f x xs j k r q refl once at_r at_q own_r own_q (λ later i l there_r there_q. once_alone f xs i l r q later there_r there_q own_r own_q)

-- ---- and the other way

none_from_at : (here : Bool) (f : SpawnRec → Bool) (x : SpawnRec) (xs : List SpawnRec)
    → f x ≡ here → (f x ≡ true → ⊥) → length (filter f xs) ≤ 0
    → length (cond here (x ∷ filter f xs) (filter f xs)) ≤ 0
none_from_at true f x xs e out none = absurd (out e)
none_from_at false f x xs e out none = none

none_from : (f : SpawnRec → Bool) (xs : List SpawnRec)
    → ((k : ℕ) (q : SpawnRec) → slice_get xs k ≡ Some q → f q ≡ true → ⊥)
    → length (filter f xs) ≤ 0
none_from f [] none = omega arith
none_from f (x ∷ xs) none = none_from_at (f x) f x xs refl (none 0 x refl) (none_from f xs (λ k q at own. none (suc k) q at own))

once_from_at : (here : Bool) (f : SpawnRec → Bool) (x : SpawnRec) (xs : List SpawnRec)
    → f x ≡ here
    → ((j k : ℕ) (r q : SpawnRec) → slice_get (x ∷ xs) j ≡ Some r → slice_get (x ∷ xs) k ≡ Some q
    → f r ≡ true → f q ≡ true → j ≡ k)
    → length (filter f xs) ≤ 1 → length (cond here (x ∷ filter f xs) (filter f xs)) ≤ 1
once_from_at true f x xs e alone rest =
    let none : length (filter f xs) ≤ 0 = none_from f xs (λ k q at own. omega (arith, alone 0 (suc k) x q refl at e own)) in
    omega arith
once_from_at false f x xs e alone rest = rest

once_from : (f : SpawnRec → Bool) (xs : List SpawnRec)
    → ((j k : ℕ) (r q : SpawnRec) → slice_get xs j ≡ Some r → slice_get xs k ≡ Some q
    → f r ≡ true → f q ≡ true → j ≡ k)
    → length (filter f xs) ≤ 1
once_from f [] alone = omega arith
once_from f (x ∷ xs) alone =
    once_from_at (f x) f x xs refl alone (once_from f xs (λ j k r q at_r at_q own_r own_q. omega (arith, alone (suc j) (suc k) r q at_r at_q own_r own_q)))

-- ---- places

all_once : (all tree : List Place) (recs : List SpawnRec) → AllOwn all tree
    → ((p : Place) → place_at all p.id ≡ Some p → is_held_once recs p ≡ true)
    → list_all (is_held_once recs) tree ≡ true
all_once all [] recs own each = refl
all_once all (p ∷ tree) recs own each = and_from (is_held_once recs p) (list_all (is_held_once recs) tree) (each p own.0) (all_once all tree recs own.1 each)

pub apart_each : (rows : List NodeRow) (recs : List SpawnRec)
    → are_apart (places rows) recs ≡ true → (x : List ℕ) (p : Place) (j k : ℕ) (r q : SpawnRec)
    → place_at (places rows) x ≡ Some p → slice_get recs j ≡ Some r → slice_get recs k ≡ Some q
    → holds p r ≡ true → holds p q ≡ true → j ≡ k
apart_each rows recs all x p j k r q there at_r at_q held_r held_q =
    once_alone (holds p) recs j k r q (leb-true (length (filter (holds p) recs)) 1 (all_found (is_held_once recs) (places rows) x p all there)) at_r at_q held_r held_q

pub each_apart : (rows : List NodeRow) (recs : List SpawnRec) → IsValid rows
    → ((x : List ℕ) (p : Place) (j k : ℕ) (r q : SpawnRec) → place_at (places rows) x ≡ Some p
    → slice_get recs j ≡ Some r → slice_get recs k ≡ Some q → holds p r ≡ true → holds p q ≡ true
    → j ≡ k)
    → are_apart (places rows) recs ≡ true
each_apart rows recs valid apart =
    all_once (places rows) (places rows) recs (all_own (places rows) (places rows) (λ y p found. found) (ids_apart rows valid))
    (λ p own. le-leb (length (filter (holds p) recs)) 1 (once_from (holds p) recs (λ j k r q at_r at_q held_r held_q. apart p.id p j k r q own at_r at_q held_r held_q)))

pub standing_is_a_test : StandingIsATest
standing_is_a_test rows recs valid = (
  λ h.
      let parts = and_parts (are_good rows recs) (are_apart (places rows) recs) h in
      record { good = good_each rows recs parts.0; apart = apart_each rows recs parts.1 },
  λ stands. and_from (are_good rows recs) (are_apart (places rows) recs) (all_good rows recs stands.good) (each_apart rows recs valid stands.apart),
)
