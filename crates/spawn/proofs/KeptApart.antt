-- Claims of spawns that are out stay apart as one more goes out.
use Rattle.std.proofs.Common.{◌≡◌, ◌∙◌, ◌⊎◌, ℕ, zero, suc, ◌||◌, Bool, true, false, cond, List, []}
use Rattle.std.proofs.Common.{◌∷◌, ◌++◌, length, Option, Some, None, is_some, slice_get, inl, inr}
use Rattle.std.proofs.Common.{refl, sym, ap, subst}
use Rattle.std.proofs.lemmas.Bool.{true≢false, and_parts}
use Rattle.std.specs.List.{find}
use Rattle.std.specs.Option.{option_map, option_map_or}
use Rattle.ticket_tree.proofs.PlainOneRow.{append_of_places}
use Rattle.ticket_items.specs.Ids.{mem}
use Rattle.ticket_rows.specs.OneRow.{rows_with_audit}
use Rattle.ticket_rows.specs.Place.{Place, places, node_places, place_at, below, up}
use Rattle.ticket_items.specs.SpawnId.{is_spawn_number}
use Rattle.ticket_rows.specs.Ticket.{has_node, first_of, unless}
use Rattle.ticket_items.specs.declared.node_row.NodeRow.{NodeRow}
use Rattle.ticket_items.specs.declared.refusal.Refusal.{Refusal}
use Rattle.ticket_items.specs.declared.refusal.Refusal.TheVariants.{UnknownNode, IsRoot}
use Rattle.ticket_items.specs.declared.refusal.Refusal.TheVariants.{UnknownResource, NotLinked}
use Rattle.ticket_items.specs.declared.refusal.Refusal.TheVariants.{NotHeld, TooManySpawns}
use Rattle.spawn.proofs.Among.{kept_keys}
use Rattle.spawn.proofs.NewRecord.{good_stays, new_is_good}
use Rattle.spawn.proofs.PartKept.{allowed}
use Rattle.spawn.proofs.NoneHeld.{none_held, first_holding}
use Rattle.plain_shop.specs.Claim.{is_claimed, linked_outside}
use Rattle.spawn.specs.Laws.{SpawnKeepsApart}
use Rattle.spawn.specs.Records.{IsGood}
use Rattle.spawn.specs.Spawning.{new_record, parent_of, spawn_refusal, spawned_audit}
use Rattle.spawn.specs.Table.{holds}
use Rattle.spawn.specs.declared.records.spawn_rec.SpawnRec.{SpawnRec}

-- ---- the last of the records

-- a record stands among the first, or is the last
last_or : (xs : List SpawnRec) (y : SpawnRec) (k : ℕ) (r : SpawnRec)
    → slice_get (xs ++ y ∷ []) k ≡ Some r → (slice_get xs k ≡ Some r) ⊎ ((k ≡ length xs) × (r ≡ y))
last_or [] y zero r e = inr (refl, ap (λ o. option_map_or (λ s. s) o y) (sym e))
last_or [] y (suc k) r e = cc
last_or (x ∷ xs) y zero r e = inl e
last_or (x ∷ xs) y (suc k) r e =
    elim (last_or xs y k r e) [
      | inl here ↦ inl here
      | inr last ↦ inr (ap suc last.0, last.1)
    ]

fails_at : (here : Bool) (f : SpawnRec → Bool) (x : SpawnRec) (xs : List SpawnRec) (k : ℕ)
    (r : SpawnRec)
    → f x ≡ here → cond here (Some x) (find f xs) ≡ None → slice_get (x ∷ xs) k ≡ Some r
    → ((j : ℕ) → find f xs ≡ None → slice_get xs j ≡ Some r → f r ≡ false) → f r ≡ false
fails_at true f x xs k r e none at go = cc
fails_at false f x xs zero r e none at go = ap (λ o. option_map_or f o false) (sym at) ∙ e
fails_at false f x xs (suc k) r e none at go = go k none at

pub none_passes : (f : SpawnRec → Bool) (xs : List SpawnRec) (k : ℕ) (r : SpawnRec)
    → find f xs ≡ None → slice_get xs k ≡ Some r → f r ≡ false
none_passes f [] k r none at = cc
none_passes f (x ∷ xs) k r none at = fails_at (f x) f x xs k r refl none at (λ j later there. none_passes f xs j r later there)

-- ---- the new claim is free

unheld : (a b c d : Bool) (o : Option Refusal) (e : Bool)
    → first_of
    (unless a UnknownNode ∷ unless b IsRoot ∷ unless c UnknownResource ∷ unless d NotLinked ∷ o
    ∷ unless e TooManySpawns ∷ [])
    ≡ None
    → o ≡ None
unheld false b c d o e none = cc
unheld true false c d o e none = cc
unheld true true false d o e none = cc
unheld true true true false o e none = cc
unheld true true true true None e none = refl
unheld true true true true (Some x) e none = cc

no_holder : (o : Option SpawnRec) → option_map (λ r. NotHeld r.id) o ≡ None → o ≡ None
no_holder None e = refl
no_holder (Some r) e = cc

pub free : (rows : List NodeRow) (recs : List SpawnRec) (number : ℕ) (n : List ℕ) (ids : List (List ℕ))
    → spawn_refusal rows recs number n ids ≡ None
    → first_holding (is_claimed n ids) recs (places rows) ≡ None
free rows recs number n ids none = no_holder (first_holding (is_claimed n ids) recs (places rows)) (unheld (has_node rows n) (is_some (up (node_places rows) n)) _ _ _ (is_spawn_number number) none)

wider : (a b c : Bool) → (a || b) ≡ true → (b ≡ true → c ≡ true) → (a || c) ≡ true
wider true b c h go = refl
wider false b c h go = go h

-- what the new record claims was asked for
pub wanted_too : (rows : List NodeRow) (number : ℕ) (n worker : List ℕ) (ids : List (List ℕ)) (time : ℕ)
    (p : Place)
    → holds p (new_record rows number n worker ids time) ≡ true → is_claimed n ids p ≡ true
wanted_too rows number n worker ids time p held =
    wider (below n p) (mem p.id (new_record rows number n worker ids time).rw) (mem p.id ids) held (λ there. (and_parts (mem p.id ids) _ (sym (kept_keys (λ q. q.id) (λ i. mem i ids) (linked_outside (places rows) n) p.id) ∙ there)).0)

-- so no spawn that was out holds it
not_both : (rows : List NodeRow) (recs : List SpawnRec) (number : ℕ) (n worker : List ℕ)
    (ids : List (List ℕ)) (time : ℕ) (x : List ℕ) (p : Place) (k : ℕ) (q : SpawnRec)
    → spawn_refusal rows recs number n ids ≡ None → place_at (places rows) x ≡ Some p
    → slice_get recs k ≡ Some q → holds p q ≡ true
    → holds p (new_record rows number n worker ids time) ≡ true → ⊥
not_both rows recs number n worker ids time x p k q none there at old new =
    true≢false (sym old ∙ none_passes (holds p) recs k q (none_held (is_claimed n ids) recs (places rows) x p (free rows recs number n ids none) there (wanted_too rows number n worker ids time p new)) at)

-- ---- one more

pub spawn_keeps_apart : SpawnKeepsApart
spawn_keeps_apart t recs number n worker ids time valid apart none =
    let rows = t.rows in
    let new = new_record rows number n worker ids time in
    let later = rows_with_audit (parent_of rows n) (spawned_audit rows new) rows in
    let still : places later ≡ places rows = append_of_places (parent_of rows n) (spawned_audit rows new) rows in
    let may = allowed rows recs number n ids none in
    record {
      good = λ k r at out. elim (last_or recs new k r at) [
        | inl old ↦ good_stays rows later r still (apart.good k r old out)
        | inr last ↦ good_stays rows later r still (subst (IsGood rows) (sym last.1) (new_is_good rows number n worker ids time valid may.0 may.1))
      ];
      apart = λ x p j k r q there at_r at_q held_r held_q.
          let here = ap (λ tree. place_at tree x) (sym still) ∙ there in
          elim (last_or recs new j r at_r) [
            | inl old_r ↦
                elim (last_or recs new k q at_q) [
                  | inl old_q ↦ apart.apart x p j k r q here old_r old_q held_r held_q
                  | inr new_q ↦ absurd (not_both rows recs number n worker ids time x p j r none here old_r held_r (ap (holds p) (sym new_q.1) ∙ held_q))
                ]
            | inr new_r ↦
                elim (last_or recs new k q at_q) [
                  | inl old_q ↦ absurd (not_both rows recs number n worker ids time x p k q none here old_q held_q (ap (holds p) (sym new_r.1) ∙ held_r))
                  | inr new_q ↦ new_r.0 ∙ sym new_q.0
                ]
          ];
    }
