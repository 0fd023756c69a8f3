-- The ids that spawns hold are kept in step with a ticket as the master edits it.
use Rattle.std.proofs.Common.{◌≡◌, ◌∙◌, ℕ, ◌&&◌, ◌||◌, Bool, true, false, not, cond, List, [], ◌∷◌}
use Rattle.std.proofs.Common.{map, Option, Some, None, is_some, refl, sym, ap}
use Rattle.std.proofs.lemmas.Bool.{true≢false}
use Rattle.std.proofs.lemmas.Slice.Eq.{bytes_eq-Decides}
use Rattle.std.specs.List.{find, list_any}
use Rattle.std.specs.Option.{option_and_then, option_map, option_map_or}
use Rattle.std.specs.Str.{bytes_eq}
use Rattle.ticket_items.specs.Ids.{mem}
use Rattle.ticket_rows.proofs.Reasons.{child_new, resource_new}
use Rattle.ticket_items.specs.Act.{Act, NodeAddition, NewNode, NewResource, NewLink, act_of}
use Rattle.ticket_items.specs.Act.{act_added_id}
use Rattle.ticket_items.specs.Edit.{added_id, target}
use Rattle.ticket_rows.specs.Edit.{behind_last, edited_rows, lookups, refusal_of}
use Rattle.ticket_rows.specs.EditRefusal.{Lookups, act_refusal}
use Rattle.ticket_rows.specs.Place.{Place, place_at, places}
use Rattle.ticket_rows.specs.Ticket.{IsValid, ids}
use Rattle.ticket_tree.proofs.ByKind.{found_by_kind}
use Rattle.ticket_tree.proofs.OnPlaces.{stands_somewhere}
use Rattle.ticket_tree.proofs.PlainEdits.{edit_of_places}
use Rattle.ticket_tree.specs.PlainEdit.{act_places, plain_places, with_link}
use Rattle.ticket_items.specs.declared.edit.Edit.{Edit}
use Rattle.ticket_items.specs.declared.link.Link.{Link}
use Rattle.ticket_items.specs.declared.node_row.NodeRow.{NodeRow}
use Rattle.spawn.proofs.EditKeeps.{edit_keeps_claims}
use Rattle.spawn.proofs.Lawful.{held_is_claimed, placed}
use Rattle.spawn.proofs.Standing.{found_among, ids_apart}
use Rattle.plain_shop.specs.Claim.{is_claimed}
use Rattle.spawn.specs.HoldingsLaws.{EditKeepsTable}
use Rattle.spawn.specs.Laws.{StandApart}
use Rattle.spawn.specs.Records.{is_out}
use Rattle.spawn.specs.Table.{as_spawn, holder_at, holder_of, holding_record, holds, spawn_with}
use Rattle.world_items.specs.declared.holder.Holder.{Holder}
use Rattle.world_items.specs.declared.holder.Holder.TheVariants.{Master, Spawn}
use Rattle.spawn.specs.declared.records.spawn_rec.SpawnRec.{SpawnRec}

-- ---- where something stands: its id and its path

abbrev Spot : Type 0
Spot = List ℕ × List (List ℕ)

abbrev spot : Place → Spot
spot p = (p.id, p.path)

abbrev spot_at : List Place → List ℕ → Option Spot
spot_at tree x = option_map spot (place_at tree x)

-- who holds what stands there
abbrev holder_there : List SpawnRec → Spot → Holder
holder_there recs s = option_map_or (λ r. Spawn r.id) (find (λ r. is_out r && (mem r.node s.1 || mem s.0 r.rw)) recs) Master

by_spot : (recs : List SpawnRec) (o : Option Place)
    → option_map (holder_at recs) o ≡ option_map (holder_there recs) (option_map spot o)
by_spot recs None = refl
by_spot recs (Some p) = refl

-- an id isn't the one that is added
abbrev pub IsOutside : Act → List ℕ → Type 0
IsOutside a x = (i : List ℕ) → act_added_id a ≡ Some i → bytes_eq i x ≡ false

abbrev pub IsOld : Edit → List ℕ → Type 0
IsOld e x = IsOutside (act_of e) x

behind_by : (x : List ℕ) (new q : Place) (tree rest : List Place) (b : Bool)
    → bytes_eq new.id x ≡ false → place_at rest x ≡ place_at tree x
    → place_at (cond b (q ∷ new ∷ tree) (q ∷ rest)) x ≡ place_at (q ∷ tree) x
behind_by x new q tree rest true other go = ap (λ b. cond (bytes_eq q.id x) (Some q) (cond b (Some new) (place_at tree x))) other
behind_by x new q tree rest false other go = ap (λ o. cond (bytes_eq q.id x) (Some q) o) go

found_behind : (f : Place → Bool) (x : List ℕ) (new : Place) (tree : List Place)
    → bytes_eq new.id x ≡ false → place_at (behind_last f new tree) x ≡ place_at tree x
found_behind f x new [] other = ap (λ b. cond b (Some new) None) other
found_behind f x new (q ∷ tree) other = behind_by x new q tree (behind_last f new tree) (f q && not (list_any f tree)) other (found_behind f x new tree other)

found_one : (c : Bool) (p q : Place) (o later : Option Place) → spot p ≡ spot q
    → option_map spot o ≡ option_map spot later
    → option_map spot (cond c (Some p) o) ≡ option_map spot (cond c (Some q) later)
found_one true p q o later same go = ap Some same
found_one false p q o later same go = go

linked_one : (b : Bool) (x : List ℕ) (link : Link) (q : Place) (xs ys : List Place)
    → spot_at xs x ≡ spot_at ys x
    → spot_at (cond b (record q { thing = with_link link q.thing }) q ∷ xs) x ≡ spot_at (q ∷ ys) x
linked_one true x link q xs ys go = found_one (bytes_eq q.id x) (record q { thing = with_link link q.thing }) q (place_at xs x) (place_at ys x) refl go
linked_one false x link q xs ys go = found_one (bytes_eq q.id x) q q (place_at xs x) (place_at ys x) refl go

abbrev linked : List ℕ → Link → Place → Place
linked n link p = cond (bytes_eq p.id n) (record p { thing = with_link link p.thing }) p

linked_spot : (n x : List ℕ) (link : Link) (tree : List Place)
    → spot_at (map (linked n link) tree) x ≡ spot_at tree x
linked_spot n x link [] = refl
linked_spot n x link (q ∷ tree) = linked_one (bytes_eq q.id n) x link q (map (linked n link) tree) tree (linked_spot n x link tree)

-- what isn't new stands where it stood
spot_stays : (a : Act) (tree : List Place) (x : List ℕ) → IsOutside a x
    → spot_at (act_places a tree) x ≡ spot_at tree x
spot_stays (NodeAddition n (NewNode new)) tree x old = ap (option_map spot) (found_behind _ x _ tree (old new.id refl))
spot_stays (NodeAddition n (NewResource y)) tree x old = ap (option_map spot) (found_behind _ x _ tree (old y.id refl))
spot_stays (NodeAddition n (NewLink link)) tree x old = linked_spot n x link tree
spot_stays a tree x old = refl

-- so it is held as it was
pub holder_stays : (e : Edit) (at : ℕ) (rows : List NodeRow) (recs : List SpawnRec) (x : List ℕ)
    → IsValid rows → refusal_of e rows ≡ None → IsOld e x
    → holder_of (edited_rows e at rows) recs x ≡ holder_of rows recs x
holder_stays e at rows recs x valid free old =
    ap (λ tree. option_map (holder_at recs) (place_at tree x)) (edit_of_places e at rows valid free)
    ∙ by_spot recs (place_at (plain_places e (places rows)) x)
    ∙ ap (option_map (holder_there recs)) (spot_stays (act_of e) (places rows) x old)
    ∙ sym (by_spot recs (place_at (places rows) x))

-- ---- the id that is added

some_same : (i j : List ℕ) → Some i ≡ Some j → i ≡ j
some_same i j e = ap (λ o. option_map_or (λ x. x) o i) e

new_id : (a : Act) (at : Lookups) (i : List ℕ) → act_refusal a at ≡ None
    → act_added_id a ≡ Some i → at.has_id i ≡ false
new_id (NodeAddition n (NewNode new)) at i free added = ap at.has_id (sym (some_same new.id i added)) ∙ (child_new n new at free).2
new_id (NodeAddition n (NewResource x)) at i free added = ap at.has_id (sym (some_same x.id i added)) ∙ resource_new n x at free
new_id a at i free added = cc

-- it stood nowhere
pub new_nowhere : (e : Edit) (rows : List NodeRow) (i : List ℕ) → refusal_of e rows ≡ None
    → added_id e ≡ Some i → mem i (ids rows) ≡ false
new_nowhere e rows i free added = new_id (act_of e) (lookups rows) i free added

none_of : (o : Option Place) → is_some o ≡ false → o ≡ None
none_of None e = refl
none_of (Some p) e = cc

no_place : (rows : List NodeRow) (x : List ℕ) → mem x (ids rows) ≡ false
    → place_at (places rows) x ≡ None
no_place rows x nowhere = none_of (place_at (places rows) x) (stands_somewhere rows x ∙ nowhere)

-- now it stands
own_by : (b here : Bool) (x : List ℕ) (new q : Place) (tree rest : List Place)
    → bytes_eq q.id x ≡ here → bytes_eq new.id x ≡ true
    → cond here (Some q) (place_at tree x) ≡ None
    → (place_at tree x ≡ None → place_at rest x ≡ Some new)
    → place_at (cond b (q ∷ new ∷ tree) (q ∷ rest)) x ≡ Some new
own_by b true x new q tree rest e own none go = cc
own_by true false x new q tree rest e own none go =
    ap (λ c. cond c (Some q) (place_at (new ∷ tree) x)) e ∙ ap (λ c. cond c (Some new) (place_at tree x)) own
own_by false false x new q tree rest e own none go = ap (λ c. cond c (Some q) (place_at rest x)) e ∙ go none

own_behind : (f : Place → Bool) (x : List ℕ) (new : Place) (tree : List Place)
    → bytes_eq new.id x ≡ true → place_at tree x ≡ None
    → place_at (behind_last f new tree) x ≡ Some new
own_behind f x new [] own none = ap (λ c. cond c (Some new) None) own
own_behind f x new (q ∷ tree) own none =
    own_by (f q && not (list_any f tree)) (bytes_eq q.id x) x new q tree (behind_last f new tree) refl own none (own_behind f x new tree own)

abbrev Stands : List Place → List ℕ → Type 0
Stands tree x = (p : Place) × (place_at tree x ≡ Some p)

new_stands : (a : Act) (tree : List Place) (i x : List ℕ) → act_added_id a ≡ Some i
    → bytes_eq i x ≡ true → place_at tree x ≡ None → Stands (act_places a tree) x
new_stands (NodeAddition n (NewNode new)) tree i x added own none =
    (_, own_behind _ x _ tree (ap (λ j. bytes_eq j x) (some_same new.id i added) ∙ own) none)
new_stands (NodeAddition n (NewResource y)) tree i x added own none =
    (_, own_behind _ x _ tree (ap (λ j. bytes_eq j x) (some_same y.id i added) ∙ own) none)
new_stands a tree i x added own none = cc

-- no spawn claims it
new_unheld : (e : Edit) (at : ℕ) (rows : List NodeRow) (recs : List SpawnRec) (x : List ℕ)
    (p : Place) (o : Option SpawnRec)
    → IsValid rows → StandApart rows recs → refusal_of e rows ≡ None
    → holder_of rows recs (target e) ≡ Some Master → place_at (places rows) x ≡ None
    → place_at (places (edited_rows e at rows)) x ≡ Some p → holding_record recs p ≡ o → o ≡ None
new_unheld e at rows recs x p None valid apart free mine nowhere there held = refl
new_unheld e at rows recs x p (Some r) valid apart free mine nowhere there held =
    let parts = held_is_claimed recs r p held in
    let place = placed (holds p) recs r held in
    let claims = edit_keeps_claims rows recs e at valid free mine place.place r place.there parts.0 (apart.good place.place r place.there parts.0) in
    let f = is_claimed r.node r.rw in
    let before : place_at (places rows) x ≡ Some p = found_among f (places rows) x p (ids_apart rows valid) (ap (λ tree. place_at tree x) (sym claims.0) ∙ found_by_kind f (places (edited_rows e at rows)) x p parts.1 there) in
    absurd (true≢false (ap is_some (sym before ∙ nowhere)))

-- so the master holds it
pub new_is_masters : (e : Edit) (at : ℕ) (rows : List NodeRow) (recs : List SpawnRec) (i x : List ℕ)
    → IsValid rows → StandApart rows recs → refusal_of e rows ≡ None
    → holder_of rows recs (target e) ≡ Some Master → added_id e ≡ Some i → bytes_eq i x ≡ true
    → holder_of (edited_rows e at rows) recs x ≡ Some Master
new_is_masters e at rows recs i x valid apart free mine added own =
    let nowhere = no_place rows x (ap (λ y. mem y (ids rows)) (sym ((bytes_eq-Decides i x).0 own)) ∙ new_nowhere e rows i free added) in
    let stands = new_stands (act_of e) (places rows) i x added own nowhere in
    let there = ap (λ tree. place_at tree x) (edit_of_places e at rows valid free) ∙ stands.1 in
    ap (option_map (holder_at recs)) there
    ∙ ap (λ o. Some (option_map_or (λ (r : SpawnRec). Spawn r.id) o Master)) (new_unheld e at rows recs x stands.0 (holding_record recs stands.0) valid apart free mine nowhere there refl)

-- ---- what spawns hold after an edit

same_by : (b : Bool) (e : Edit) (at : ℕ) (rows : List NodeRow) (recs : List SpawnRec) (i x : List ℕ)
    → IsValid rows → StandApart rows recs → refusal_of e rows ≡ None
    → holder_of rows recs (target e) ≡ Some Master → added_id e ≡ Some i → bytes_eq i x ≡ b
    → spawn_with rows recs x ≡ spawn_with (edited_rows e at rows) recs x
same_by true e at rows recs i x valid apart free mine added own =
    let nowhere = no_place rows x (ap (λ y. mem y (ids rows)) (sym ((bytes_eq-Decides i x).0 own)) ∙ new_nowhere e rows i free added) in
    ap (λ o. option_and_then as_spawn (option_map (holder_at recs) o)) nowhere
    ∙ sym (ap (option_and_then as_spawn) (new_is_masters e at rows recs i x valid apart free mine added own))
same_by false e at rows recs i x valid apart free mine added other =
    ap (option_and_then as_spawn) (sym (holder_stays e at rows recs x valid free (λ j is. ap (λ k. bytes_eq k x) (some_same j i (sym is ∙ added)) ∙ other)))

same_at : (o : Option (List ℕ)) (e : Edit) (at : ℕ) (rows : List NodeRow) (recs : List SpawnRec)
    (x : List ℕ)
    → IsValid rows → StandApart rows recs → refusal_of e rows ≡ None
    → holder_of rows recs (target e) ≡ Some Master → added_id e ≡ o
    → spawn_with rows recs x ≡ spawn_with (edited_rows e at rows) recs x
same_at None e at rows recs x valid apart free mine added =
    ap (option_and_then as_spawn) (sym (holder_stays e at rows recs x valid free (λ i is. none_added i (sym is ∙ added))))
  where
    none_added : (i : List ℕ) → Some i ≡ None → bytes_eq i x ≡ false
    none_added i e' = cc
same_at (Some i) e at rows recs x valid apart free mine added = same_by (bytes_eq i x) e at rows recs i x valid apart free mine added refl

pub edit_keeps_table : EditKeepsTable
edit_keeps_table rows recs e at h valid apart free mine table =
    record { same = λ x. table.same x ∙ same_at (added_id e) e at rows recs x valid apart free mine refl }
