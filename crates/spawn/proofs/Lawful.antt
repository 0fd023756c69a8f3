-- The laws of spawning.
use Rattle.std.proofs.Common.{◌≡◌, ◌∙◌, ◌⊎◌, ℕ, zero, suc, ◌&&◌, ◌||◌, Bool, true, false, not, cond}
use Rattle.std.proofs.Common.{List, [], ◌∷◌, Option, Some, None, is_some, slice_get, inl, inr, refl}
use Rattle.std.proofs.Common.{sym, ap, arith}
use Rattle.std.proofs.lemmas.Bool.{true≢false, and_parts, and_from}
use Rattle.std.specs.List.{find}
use Rattle.std.specs.Option.{option_map, option_map_or, option_and_then}
use Rattle.std.specs.Str.{bytes_eq}
use Rattle.ticket_items.proofs.Apart.{bytes_eq-same}
use Rattle.ticket_rows.proofs.AtHome.{find-passes}
use Rattle.ticket_tree.proofs.Parents.{one_parent_each}
use Rattle.ticket_items.specs.Ids.{mem}
use Rattle.ticket_tree.specs.Laws.{HasParentAt, IsRootAt}
use Rattle.ticket_rows.specs.Place.{Place, places, node_places, place_at, is_node, below, parent}
use Rattle.ticket_rows.specs.Place.{up}
use Rattle.ticket_rows.specs.Ticket.{IsValid}
use Rattle.ticket_items.specs.declared.node_row.NodeRow.{NodeRow}
use Rattle.spawn.proofs.Among.{kept_keys}
use Rattle.spawn.proofs.Outside.{all_found, kept_found, kept_passes}
use Rattle.spawn.proofs.Standing.{ids_apart, place_of_node}
use Rattle.plain_shop.specs.Claim.{is_claimed, is_linked_below, is_linked_outside, linked_outside}
use Rattle.spawn.specs.Laws.{ClaimIsHeld, HeldIsClaimed, ParentIsMasters, StandApart}
use Rattle.spawn.specs.Records.{IsGood, is_out}
use Rattle.spawn.specs.Spawning.{parent_of}
use Rattle.spawn.specs.Table.{holder_at, holder_of, holding_record, holds}
use Rattle.world_items.specs.declared.holder.Holder.TheVariants.{Master, Spawn}
use Rattle.spawn.specs.declared.records.spawn_rec.SpawnRec.{SpawnRec}

-- ---- what passes alone is found

-- what passes stands at this number alone
abbrev Alone : (SpawnRec → Bool) → List SpawnRec → ℕ → Type 0
Alone f xs k = (j : ℕ) (y : SpawnRec) → slice_get xs j ≡ Some y → f y ≡ true → j ≡ k

first_at : (here : Bool) (f : SpawnRec → Bool) (x : SpawnRec) (xs : List SpawnRec) (k : ℕ)
    (r : SpawnRec)
    → f x ≡ here → slice_get (x ∷ xs) k ≡ Some r → f r ≡ true → Alone f (x ∷ xs) k
    → ((j : ℕ) → slice_get xs j ≡ Some r → Alone f xs j → find f xs ≡ Some r)
    → cond here (Some x) (find f xs) ≡ Some r
first_at true f x xs zero r e at passes alone go = at
first_at true f x xs (suc k) r e at passes alone go = absurd (omega (arith, alone zero x refl e))
first_at false f x xs zero r e at passes alone go = absurd (true≢false (sym passes ∙ ap (λ o. option_map_or f o true) (sym at) ∙ e))
first_at false f x xs (suc k) r e at passes alone go = go k at (λ j y there ok. omega (arith, alone (suc j) y there ok))

found_alone : (f : SpawnRec → Bool) (xs : List SpawnRec) (k : ℕ) (r : SpawnRec)
    → slice_get xs k ≡ Some r → f r ≡ true → Alone f xs k → find f xs ≡ Some r
found_alone f [] k r at passes alone = cc
found_alone f (x ∷ xs) k r at passes alone = first_at (f x) f x xs k r refl at passes alone (λ j there only. found_alone f xs j r there passes only)

-- what is found stands somewhere
pub record Placed (xs : List SpawnRec) (r : SpawnRec) : Type 0 where
  pub place : ℕ
  pub there : slice_get xs place ≡ Some r

placed_at : (here : Bool) (x : SpawnRec) (xs : List SpawnRec) (o : Option SpawnRec) (r : SpawnRec)
    → cond here (Some x) o ≡ Some r → (o ≡ Some r → Placed xs r) → Placed (x ∷ xs) r
placed_at true x xs o r e go = record { place = 0; there = e }
placed_at false x xs o r e go = record { place = suc (go e).place; there = (go e).there }

pub placed : (f : SpawnRec → Bool) (xs : List SpawnRec) (r : SpawnRec) → find f xs ≡ Some r
    → Placed xs r
placed f [] r e = cc
placed f (x ∷ xs) r e = placed_at (f x) x xs (find f xs) r e (placed f xs r)

-- ---- claims are held

pub claim_is_held : ClaimIsHeld
claim_is_held rows recs apart k r x p at out there claims =
    let held : holds p r ≡ true = and_from _ _ out claims in
    found_alone (holds p) recs k r at held (λ j q other ok. apart.apart x p j k q r there other at ok held)

pub held_is_claimed : HeldIsClaimed
held_is_claimed recs r p found = and_parts (is_out r) (is_claimed r.node r.rw p) (find-passes (holds p) recs r found)

-- ---- the parent of a node that is out

or_cases : (a b : Bool) → (a || b) ≡ true → (a ≡ true) ⊎ (b ≡ true)
or_cases true b h = inl refl
or_cases false b h = inr h

same_place : (p q : Place) → Some p ≡ Some q → p ≡ q
same_place p q e = ap (λ o. option_map_or (λ r. r) o p) e

-- a copy that may be changed isn't of a node
no_node : (rows : List NodeRow) (q : SpawnRec) (x : List ℕ) (p : Place) → IsValid rows
    → IsGood rows q → place_at (places rows) x ≡ Some p → is_node p ≡ true → mem x q.rw ≡ true → ⊥
no_node rows q x p valid good there node chosen =
    let tree = places rows in
    let linked = (and_parts (mem x q.rw) _ (sym (kept_keys (λ s. s.id) (λ i. mem i q.rw) (linked_outside tree q.node) x) ∙ sym (ap (mem x) good.rw) ∙ chosen)).1 in
    let found = kept_found (is_linked_outside tree q.node) tree x (ids_apart rows valid) linked in
    let resource = (and_parts (not (is_node found.0)) (not (below q.node found.0)) (and_parts (not (is_node found.0) && not (below q.node found.0)) (is_linked_below tree q.node found.0.id) found.2).0).0 in
    true≢false (sym resource ∙ ap (λ s. not (is_node s)) (same_place found.0 p (sym found.1 ∙ there)) ∙ ap not node)

-- a spawn that holds the parent of a node claims the node too
record Family (rows : List NodeRow) (n : List ℕ) : Type 0 where
  own : Place
  above : Place
  own_there : place_at (places rows) n ≡ Some own
  above_there : place_at (places rows) above.id ≡ Some above
  above_node : is_node above ≡ true
  path : own.path ≡ n ∷ above.path
  apart : mem n above.path ≡ false
  parent_is : parent_of rows n ≡ above.id

stood : (o : Option Place) → is_some (option_and_then parent o) ≡ true → (p : Place) × (o ≡ Some p)
stood None h = cc
stood (Some p) h = (p, refl)

family_by : (rows : List NodeRow) (n : List ℕ) (p : Place) → IsValid rows
    → is_some (up (node_places rows) n) ≡ true → place_at (node_places rows) n ≡ Some p
    → IsRootAt (node_places rows) n p ⊎ HasParentAt (node_places rows) n p → Family rows n
family_by rows n p valid has there (inl root) =
    absurd (true≢false (sym has ∙ ap (λ o. is_some (option_and_then parent o)) there ∙ ap (λ path. is_some (slice_get path 1)) root.path))
family_by rows n p valid has there (inr at) =
    record {
      own = p;
      above = at.parent;
      own_there = place_of_node rows n p valid there;
      above_there = place_of_node rows at.parent.id at.parent valid at.there;
      above_node = all_found is_node (node_places rows) at.parent.id at.parent (kept_passes is_node (places rows)) at.there;
      path = at.path;
      apart = at.once;
      parent_is = ap (λ o. option_map_or (λ u. u) o []) at.above;
    }

family : (rows : List NodeRow) (n : List ℕ) → IsValid rows
    → is_some (up (node_places rows) n) ≡ true → Family rows n
family rows n valid has =
    let there = stood (place_at (node_places rows) n) has in
    family_by rows n there.0 valid has there.1 (one_parent_each rows valid n there.0 there.1)

or_right : (a b : Bool) → b ≡ true → (a || b) ≡ true
or_right true b h = refl
or_right false b h = h

or_left : (a b : Bool) → a ≡ true → (a || b) ≡ true
or_left true b h = refl
or_left false b h = cc

-- no spawn holds the parent
unheld_by : (o : Option SpawnRec) (rows : List NodeRow) (recs : List SpawnRec) (k : ℕ)
    (r : SpawnRec)
    → IsValid rows → StandApart rows recs → slice_get recs k ≡ Some r → is_out r ≡ true
    → (at : Family rows r.node) → holding_record recs at.above ≡ o → o ≡ None
unheld_by None rows recs k r valid apart there out at e = refl
unheld_by (Some q) rows recs k r valid apart there out at e =
    let parts = held_is_claimed recs q at.above e in
    let place = placed (holds at.above) recs q e in
    let own : holds at.own r ≡ true = and_from _ _ out (or_left (mem r.node at.own.path) (mem at.own.id r.rw) (ap (mem r.node) at.path ∙ ap (λ b. b || mem r.node at.above.path) (bytes_eq-same r.node))) in
    elim (or_cases (below q.node at.above) (mem at.above.id q.rw) parts.1) [
      | inl under ↦
          let too : holds at.own q ≡ true = and_from _ _ parts.0 (or_left (mem q.node at.own.path) (mem at.own.id q.rw) (ap (mem q.node) at.path ∙ or_right (bytes_eq r.node q.node) (mem q.node at.above.path) under)) in
          let one : place.place ≡ k = apart.apart r.node at.own place.place k q r at.own_there place.there there too own in
          let same : Some q ≡ Some r = sym place.there ∙ ap (slice_get recs) one ∙ there in
          absurd (true≢false (sym under ∙ ap (λ s. option_map_or (λ t. mem t.node at.above.path) s true) same ∙ at.apart))
      | inr chosen ↦ absurd (no_node rows q at.above.id at.above valid (apart.good place.place q place.there parts.0) at.above_there at.above_node chosen)
    ]

pub parent_is_masters : ParentIsMasters
parent_is_masters rows recs valid apart k r there out =
    let at = family rows r.node valid (apart.good k r there out).has_parent in
    ap (holder_of rows recs) at.parent_is ∙ ap (option_map (holder_at recs)) at.above_there
    ∙ ap (λ o. Some (option_map_or (λ s. Spawn s.id) o Master)) (unheld_by (holding_record recs at.above) rows recs k r valid apart there out at refl)
