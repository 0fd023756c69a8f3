-- An edit of the master in a shop: the controllers' step and the shop's agree.
use Rattle.std.proofs.Common.{◌≡◌, ◌∙◌, ℕ, Bool, true, false, cond, List, [], ◌∷◌, Option, Some, None, is_some, Err, refl, sym, ap}
use Rattle.std.proofs.lemmas.Bool.{true≢false}
use Rattle.std.proofs.lemmas.Slice.Eq.{bytes_eq-Decides}
use Rattle.std.specs.Option.{option_map, option_map_or}
use Rattle.std.specs.Str.{bytes_eq}
use Rattle.ticket_items.specs.Ids.{mem}
use Rattle.ticket_items.specs.declared.edit.Edit.{Edit}
use Rattle.ticket_items.specs.Act.{Act, NodeAddition, NewNode, NewResource, act_added_id, act_of, act_target}
use Rattle.ticket_items.specs.declared.refusal.Refusal.{Refusal}
use Rattle.ticket_rows.proofs.Alike.{later_alike, unknown_alike}
use Rattle.ticket_items.specs.Edit.{added_id, target}
use Rattle.ticket_rows.specs.Edit.{edited_rows, lookups}
use Rattle.ticket_rows.specs.EditRefusal.{later_refusal, unknown_refusal}
use Rattle.ticket_rows.specs.Place.{Place, Row, place_at, places, row_in}
use Rattle.ticket_rows.specs.Ticket.{IsValid, first_of, ids}
use Rattle.ticket_tree.proofs.ByKind.{found_among, found_by_kind, ids_apart}
use Rattle.ticket_tree.proofs.LookUps.{stands_with_row}
use Rattle.ticket_tree.proofs.OnPlaces.{stands_somewhere}
use Rattle.ticket_tree.proofs.PlainEdits.{edit_of_places}
use Rattle.ticket_tree.proofs.PlainRefusal.{lookups_alike}
use Rattle.ticket_tree.proofs.PlainRows.{edit_of_rows}
use Rattle.ticket_tree.specs.PlainEdit.{act_row, act_rows_by_id, plain_lookups, plain_rows, with_line, with_row_changed}
use Rattle.controller.specs.declared.message.Message.{Message}
use Rattle.spawn.proofs.EditKeeps.{edit_keeps_claims}
use Rattle.spawn.proofs.HoldingsEdited.{IsOld, IsOutside, holder_stays, new_nowhere}
use Rattle.spawn.proofs.Lawful.{held_is_claimed, placed}
use Rattle.spawn.proofs.Outside.{some_of}
use Rattle.plain_shop.specs.Claim.{is_claimed}
use Rattle.spawn.specs.Laws.{StandApart}
use Rattle.spawn.specs.Table.{holder_at, holder_of, holding_record, holds}
use Rattle.spawn.specs.declared.records.spawn_rec.SpawnRec.{SpawnRec}
use Rattle.world_items.specs.declared.holder.Holder.{Holder}
use Rattle.world_items.specs.declared.holder.Holder.TheVariants.{Master, Spawn}
use Rattle.spawn.proofs.SoundPart.{false_by}
use Rattle.master_core.proofs.Refusals.{IsFree, edit_free}
use Rattle.master_core.specs.Master.{State as MasterState, holder}
use Rattle.master_core.specs.Orders as orders
use Rattle.world_items.specs.declared.master_order.Order.TheVariants as order
use Rattle.ticket_tree.specs.PartView.{part_row}
use Rattle.world.proofs.Shop.Agreeing.{Agrees}
use Rattle.world.proofs.Master.Steps.{with_master}
use Rattle.world.proofs.Shop.Paths.{same_shop}
use Rattle.world.specs.Controllers.{Controllers}
use Rattle.plain_shop.specs.Shop.{PlainState, Rows}
use Rattle.plain_shop.specs.Acts.{after_edit, with_new}
use Rattle.plain_shop.specs.Steps.{Tag, edit_refusal, master_does}
use Rattle.world.specs.Showing.{now_shown, part_of_spawn, row_at, shop_shown}
use Rattle.world.specs.State.{IsConsistent, State}
use Rattle.controller.specs.Step.{Step, unless_refused}
use Rattle.master_core.specs.Orders.{order_step as ordered_master}
use Rattle.world.specs.Stepping.{master_moved}

-- ---- refusals

-- an order that is refused alike, and done alike where it isn't
pub order_agrees : (c : Controllers) (done : Step MasterState Message) (plain : Step PlainState Tag) (mine its : Option Refusal) → mine ≡ its → (mine ≡ None → Agrees (master_moved c done) plain)
    → Agrees (master_moved c (unless_refused mine c.master done)) (unless_refused its (shop_shown c) plain)
order_agrees c done plain None None same go = go refl
order_agrees c done plain None (Some e) same go = cc
order_agrees c done plain (Some e) None same go = cc
order_agrees c done plain (Some e) (Some f) same go =
    let one : e ≡ f = cc in
    record { reply = λ i. Err (one i); next = refl; sent = refl }

pub edit_refused : (e : Edit) (c : Controllers) → IsValid c.master.ticket.rows → orders.edit_refusal e c.master ≡ edit_refusal e (shop_shown c)
edit_refused e c valid =
    let rows = c.master.ticket.rows in
    let alike = lookups_alike rows valid in
    let held = orders.not_held c.master (target e) in
    ap (λ o. first_of (o ∷ held ∷ later_refusal e (lookups rows) ∷ [])) (sym (unknown_alike (act_of e) (plain_lookups (places rows)) (lookups rows) alike))
    ∙ ap (λ o. first_of (unknown_refusal e (plain_lookups (places rows)) ∷ held ∷ o ∷ [])) (sym (later_alike (act_of e) (plain_lookups (places rows)) (lookups rows) alike))

-- ---- rows, point by point

pub touch_as : (y : List ℕ) (f : Row → Row) (rows others : Rows) (x : List ℕ) → rows x ≡ others x → with_row_changed y f rows x ≡ with_row_changed y f others x
touch_as y f rows others x same = ap (λ o. cond (bytes_eq y x) (option_map f o) o) same

pub untouched : (y : List ℕ) (f : Row → Row) (rows : Rows) (x : List ℕ) → bytes_eq y x ≡ false → with_row_changed y f rows x ≡ rows x
untouched y f rows x other = ap (λ b. cond b (option_map f (rows x)) (rows x)) other

line_as : (y : List ℕ) (row : Row) (rows others : Rows) (x : List ℕ) → rows x ≡ others x → with_line y row rows x ≡ with_line y row others x
line_as y row rows others x same = ap (λ o. cond (bytes_eq y x) (Some row) o) same

other_line : (y : List ℕ) (row : Row) (rows : Rows) (x : List ℕ) → bytes_eq y x ≡ false → with_line y row rows x ≡ rows x
other_line y row rows x other = ap (λ b. cond b (Some row) (rows x)) other

own_line : (y : List ℕ) (row : Row) (rows : Rows) (x : List ℕ) → bytes_eq y x ≡ true → with_line y row rows x ≡ Some row
own_line y row rows x own = ap (λ b. cond b (Some row) (rows x)) own

-- an act makes the same of what is the same
rows_as : (a : Act) (at : ℕ) (rows others : Rows) (x : List ℕ) → rows x ≡ others x → act_rows_by_id a at rows x ≡ act_rows_by_id a at others x
rows_as (NodeAddition n (NewNode new)) at rows others x same = line_as new.id _ rows others x same
rows_as (NodeAddition n (NewResource y)) at rows others x same = line_as y.id _ rows others x same
rows_as a at rows others x same = touch_as (act_target a) (act_row a at) rows others x same

-- what is neither the target nor new stays
rows_stay : (a : Act) (at : ℕ) (rows : Rows) (x : List ℕ) → bytes_eq (act_target a) x ≡ false → IsOutside a x → act_rows_by_id a at rows x ≡ rows x
rows_stay (NodeAddition n (NewNode new)) at rows x other old = other_line new.id _ rows x (old new.id refl)
rows_stay (NodeAddition n (NewResource y)) at rows x other old = other_line y.id _ rows x (old y.id refl)
rows_stay a at rows x other old = untouched (act_target a) (act_row a at) rows x other

-- what is new has its first row
abbrev AreNew : Act → ℕ → List ℕ → Type 0
AreNew a at x = (row : Row) × ((rows : Rows) → act_rows_by_id a at rows x ≡ Some row)

rows_new : (a : Act) (at : ℕ) (i x : List ℕ) → act_added_id a ≡ Some i → bytes_eq i x ≡ true → AreNew a at x
rows_new (NodeAddition n (NewNode new)) at i x added own = (_, λ rows. own_line new.id _ rows x (ap (λ o. option_map_or (λ j. bytes_eq j x) o true) added ∙ own))
rows_new (NodeAddition n (NewResource y)) at i x added own = (_, λ rows. own_line y.id _ rows x (ap (λ o. option_map_or (λ j. bytes_eq j x) o true) added ∙ own))
rows_new a at i x added own = cc

-- ---- holders

some_same : (i j : List ℕ) → Some i ≡ Some j → i ≡ j
some_same i j e = ap (λ o. option_map_or (λ x. x) o i) e

-- no spawn claims what stood nowhere
new_unheld : (e : Edit) (at : ℕ) (m : MasterState) (x : List ℕ) (p : Place) (o : Option SpawnRec) → IsValid m.ticket.rows → StandApart m.ticket.rows m.records → IsFree m e → mem x (ids m.ticket.rows) ≡ false
    → place_at (places (edited_rows e at m.ticket.rows)) x ≡ Some p → holding_record m.records p ≡ o → o ≡ None
new_unheld e at m x p None valid apart free nowhere there held = refl
new_unheld e at m x p (Some r) valid apart free nowhere there held =
    let rows = m.ticket.rows in
    let parts = held_is_claimed m.records r p held in
    let place = placed (holds p) m.records r held in
    let claims = edit_keeps_claims rows m.records e at valid free.rows free.held place.place r place.there parts.0 (apart.good place.place r place.there parts.0) in
    let f = is_claimed r.node r.rw in
    let before : place_at (places rows) x ≡ Some p = found_among f (places rows) x p (ids_apart rows valid) (ap (λ tree. place_at tree x) (sym claims.0) ∙ found_by_kind f (places (edited_rows e at rows)) x p parts.1 there) in
    absurd (true≢false (sym (ap is_some before) ∙ stands_somewhere rows x ∙ nowhere))

-- and the master holds it
new_is_masters : (e : Edit) (at : ℕ) (m : MasterState) (i x : List ℕ) → IsValid m.ticket.rows → StandApart m.ticket.rows m.records → IsFree m e → added_id e ≡ Some i → bytes_eq i x ≡ true → holder_of (edited_rows e at m.ticket.rows) m.records x ≡ Some Master
new_is_masters e at m i x valid apart free added own =
    let rows = m.ticket.rows in
    let later = edited_rows e at rows in
    let row = rows_new (act_of e) at i x added own in
    let place = some_of (place_at (places later) x) (stands_with_row later x ∙ ap is_some (edit_of_rows e at rows valid free.rows x ∙ row.1 (row_in rows))) in
    let nowhere : mem x (ids rows) ≡ false = ap (λ y. mem y (ids rows)) (sym ((bytes_eq-Decides i x).0 own)) ∙ new_nowhere e rows i free.rows added in
    ap (option_map (holder_at m.records)) place.1
    ∙ ap (λ o. Some (option_map_or (λ (r : SpawnRec). Spawn r.id) o Master)) (new_unheld e at m x place.0 (holding_record m.records place.0) valid apart free nowhere place.1 refl)

-- ---- what is now

-- the controllers after the edit
abbrev later : Edit → ℕ → Controllers → Controllers
later e at c = with_master c (orders.allowed_step (order.Edit e) at c.master).next

-- what the master holds isn't what a spawn holds
pub not_masters : (m : MasterState) (y x : List ℕ) (s : ℕ) → holder m y ≡ Some Master → holder m x ≡ Some (Spawn s) → bytes_eq y x ≡ false
not_masters m y x s mine its =
    false_by (bytes_eq y x) (λ same.
    let one : holder m y ≡ holder m x = ap (holder m) ((bytes_eq-Decides y x).0 same) in
    cc)

-- the row of what isn't new, by its holder
row_after : (e : Edit) (at : ℕ) (c : Controllers) (x : List ℕ) (h : Option Holder) → IsValid c.master.ticket.rows → IsFree c.master e → IsOld e x → holder c.master x ≡ h → row_at (later e at c) x h ≡ plain_rows e at (now_shown c) x
row_after e at c x None valid free old held =
    edit_of_rows e at c.master.ticket.rows valid free.rows x ∙ rows_as (act_of e) at (row_in c.master.ticket.rows) (now_shown c) x (sym (ap (row_at c x) held))
row_after e at c x (Some Master) valid free old held =
    edit_of_rows e at c.master.ticket.rows valid free.rows x ∙ rows_as (act_of e) at (row_in c.master.ticket.rows) (now_shown c) x (sym (ap (row_at c x) held))
row_after e at c x (Some (Spawn s)) valid free old held =
    let rows = c.master.ticket.rows in
    let other = not_masters c.master (target e) x s free.held held in
    ap (option_map_or (λ p. part_row p x) (part_of_spawn c s)) (edit_of_rows e at rows valid free.rows x ∙ rows_stay (act_of e) at (row_in rows) x other old)
    ∙ sym (rows_stay (act_of e) at (now_shown c) x other old ∙ ap (row_at c x) held)

-- ---- both, point by point

record IsSame (e : Edit) (at : ℕ) (c : Controllers) (x : List ℕ) : Type 0 where
  holds_it : holder (later e at c).master x ≡ with_new (added_id e) (holder c.master) x
  shows_it : now_shown (later e at c) x ≡ plain_rows e at (now_shown c) x

same_old : (e : Edit) (at : ℕ) (c : Controllers) (x : List ℕ) → IsValid c.master.ticket.rows → IsFree c.master e → IsOld e x → with_new (added_id e) (holder c.master) x ≡ holder c.master x → IsSame e at c x
same_old e at c x valid free old still =
    let stays = holder_stays e at c.master.ticket.rows c.master.records x valid free.rows old in
    record {
      holds_it = stays ∙ sym still;
      shows_it = ap (row_at (later e at c) x) stays ∙ row_after e at c x (holder c.master x) valid free old refl;
    }

same_new : (e : Edit) (at : ℕ) (c : Controllers) (i x : List ℕ) → IsValid c.master.ticket.rows → StandApart c.master.ticket.rows c.master.records → IsFree c.master e → added_id e ≡ Some i → bytes_eq i x ≡ true → IsSame e at c x
same_new e at c i x valid apart free added own =
    let rows = c.master.ticket.rows in
    let row = rows_new (act_of e) at i x added own in
    let mine = new_is_masters e at c.master i x valid apart free added own in
    record {
      holds_it = mine ∙ sym (ap (λ o. with_new o (holder c.master) x) added ∙ ap (λ b. cond b (Some Master) (holder c.master x)) own);
      shows_it = ap (row_at (later e at c) x) mine ∙ edit_of_rows e at rows valid free.rows x ∙ row.1 (row_in rows) ∙ sym (row.1 (now_shown c));
    }

one_added : (i j : List ℕ) (o : Option (List ℕ)) → o ≡ Some i → o ≡ Some j → i ≡ j
one_added i j o a b = some_same i j (sym a ∙ b)

same_by : (e : Edit) (at : ℕ) (c : Controllers) (i x : List ℕ) (b : Bool) → IsValid c.master.ticket.rows → StandApart c.master.ticket.rows c.master.records → IsFree c.master e → added_id e ≡ Some i → bytes_eq i x ≡ b → IsSame e at c x
same_by e at c i x true valid apart free added own = same_new e at c i x valid apart free added own
same_by e at c i x false valid apart free added other =
    same_old e at c x valid free (λ j is. ap (λ k. bytes_eq k x) (one_added j i (added_id e) is added) ∙ other)
    (ap (λ o. with_new o (holder c.master) x) added ∙ ap (λ b. cond b (Some Master) (holder c.master x)) other)

same_at : (e : Edit) (at : ℕ) (c : Controllers) (x : List ℕ) (added : Option (List ℕ)) → IsValid c.master.ticket.rows → StandApart c.master.ticket.rows c.master.records → IsFree c.master e → added_id e ≡ added → IsSame e at c x
same_at e at c x None valid apart free none = same_old e at c x valid free (λ i is. cc) (ap (λ o. with_new o (holder c.master) x) none)
same_at e at c x (Some i) valid apart free added = same_by e at c i x (bytes_eq i x) valid apart free added refl

-- ---- the whole

edit_is_shown : (e : Edit) (at : ℕ) (c : Controllers) → IsValid c.master.ticket.rows → StandApart c.master.ticket.rows c.master.records → IsFree c.master e → shop_shown (later e at c) ≡ after_edit e at (shop_shown c)
edit_is_shown e at c valid apart free =
    let same : (x : List ℕ) → IsSame e at c x = λ x. same_at e at c x (added_id e) valid apart free refl in
    same_shop (shop_shown (later e at c)) (after_edit e at (shop_shown c))
    (record {
      master = refl;
      workers = refl;
      job = refl;
      tree = edit_of_places e at c.master.ticket.rows valid free.rows;
      seen = edit_of_rows e at c.master.ticket.rows valid free.rows;
      now = λ x. (same x).shows_it;
      holder = λ x. (same x).holds_it;
      spawns = refl;
    })

pub master_edits : (w : State) (e : Edit) (at : ℕ) → IsConsistent w
    → Agrees (master_moved w.controllers (ordered_master (order.Edit e) at w.controllers.master)) (master_does (order.Edit e) at (shop_shown w.controllers))
master_edits w e at kept =
    let c = w.controllers in
    let valid = kept.master.valid in
    order_agrees c _ _ (orders.edit_refusal e c.master) (edit_refusal e (shop_shown c)) (edit_refused e c valid)
    (λ none. record { reply = refl; next = edit_is_shown e at c valid kept.master.apart (edit_free e c.master none); sent = refl })
