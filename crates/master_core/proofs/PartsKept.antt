-- The part of a spawn that is out stays the same as another is merged, withdrawn or goes out, and as
-- the master edits what it holds.
use Rattle.std.proofs.Common.{◌≡◌, ◌∙◌, ◌⊎◌, ℕ, ◌++◌, true, false, cond, List, [], ◌∷◌, Option, Some, None, Ok, length, slice_get, inl, inr, refl, sym, ap, subst}
use Rattle.std.proofs.lemmas.Bool.{and_from}
use Rattle.std.proofs.lemmas.Slice.Eq.{bytes_eq-Decides}
use Rattle.std.specs.Option.{option_map, option_map_or}
use Rattle.std.specs.Str.{bytes_eq}
use Rattle.ticket_items.proofs.Places.{same_found}
use Rattle.ticket_items.specs.Ids.{mem}
use Rattle.ticket_items.specs.declared.node_row.NodeRow.{NodeRow}
use Rattle.ticket_items.specs.declared.refusal.Refusal.{Refusal}
use Rattle.ticket_rows.specs.OneRow.{rows_with_audit}
use Rattle.ticket_rows.specs.Place.{Row, place_at, places, row_in, nodes_in, up}
use Rattle.ticket_rows.specs.Ticket.{IsValid, Job, are_unreserved}
use Rattle.ticket_tree.proofs.PlainOneRow.{append_of_places, append_of_rows}
use Rattle.ticket_tree.proofs.StaysValid.{append_is_valid}
use Rattle.ticket_tree.specs.Part.{PartCopy}
use Rattle.ticket_tree.specs.PartView.{part_row}
use Rattle.ticket_tree.specs.PlainEdit.{with_row_changed}
use Rattle.controller.specs.Reply.{spawn_in}
use Rattle.controller.specs.Step.{unless_refused}
use Rattle.controller.specs.declared.body.Body.TheVariants.{Return}
use Rattle.controller.specs.declared.message.Message.{Message}
use Rattle.spawn.proofs.KeptApart.{spawn_keeps_apart}
use Rattle.spawn.proofs.Lawful.{claim_is_held, parent_is_masters, placed}
use Rattle.spawn.proofs.Outside.{kept_found}
use Rattle.spawn.proofs.PartKept.{above_apart, allowed}
use Rattle.spawn.proofs.PartStays.{part_stays}
use Rattle.spawn.proofs.SoundPart.{false_by}
use Rattle.spawn.proofs.Standing.{ids_apart}
use Rattle.plain_shop.specs.Claim.{claim, ids_of, is_claimed}
use Rattle.spawn.specs.Laws.{StandApart}
use Rattle.spawn.specs.Parts.{part_for}
use Rattle.spawn.specs.Records.{is_out}
use Rattle.spawn.specs.Spawning.{job_after_spawn, parent_of, spawned_audit}
use Rattle.spawn.specs.Table.{holder_at, holder_of, holding_record}
use Rattle.spawn.specs.declared.records.phase.Phase.TheVariants.{Merged, Withdrawn}
use Rattle.spawn.specs.declared.records.spawn_rec.SpawnRec.{SpawnRec}
use Rattle.world_items.specs.declared.holder.Holder.TheVariants.{Master, Spawn}
use Rattle.merge.proofs.PutPlaces.{put_of_places}
use Rattle.merge.proofs.PutRows.{put_of_rows}
use Rattle.merge.proofs.PutValid.{put_is_valid}
use Rattle.merge.specs.PlainPut.{merged_rows}
use Rattle.merge.specs.Put.{put}
use Rattle.merge.specs.Shape.{Fits}
use Rattle.merge.specs.Withdrawal.{job_after_withdrawal, withdrawn_audit}
use Rattle.master_core.proofs.EditedParts.{edit_keeps_parts, same_ancestors}
use Rattle.merge.proofs.Fitting.{part_fits}
use Rattle.world_items.specs.declared.reply.Reply.TheVariants as reply
use Rattle.master_core.proofs.MessageKept.{unreserved_rows}
use Rattle.master_core.proofs.MessageLaws.{message_ends_spawns}
use Rattle.master_core.proofs.OrderLaws.{records_stay}
use Rattle.master_core.proofs.Recorded.{found_phase, get_front, get_last, number_is, phase_if, phase_or}
use Rattle.master_core.proofs.Refusals.{edit_free, part_free, spawn_free, take_free}
use Rattle.master_core.specs.Laws.{MessageKeepsSpawns, OrderKeepsSpawns}
use Rattle.master_core.specs.Master.{IsConsistent, State, is_of, merged_record, next_number, record_of, withdrawn_record}
use Rattle.master_core.specs.Messages.{IsValidBody, body_refusal, state_after_merge, state_after_withdrawal, take_refusal, take_step}
use Rattle.master_core.specs.Orders.{allowed_step, next_record, order_refusal}
use Rattle.world_items.specs.declared.master_order.Order.{Order}
use Rattle.world_items.specs.declared.master_order.Order.TheVariants as order

-- ---- what is claimed isn't the parent of a node that is out

no_master : (r : SpawnRec) (o : Option SpawnRec) → o ≡ Some r → Some (option_map_or (λ s. Spawn s.id) o Master) ≡ Some Master → ⊥
no_master r None e held = cc
no_master r (Some s) e held = cc

claimed_not_parent : (rows : List NodeRow) (recs : List SpawnRec) (j : ℕ) (q : SpawnRec) (k : ℕ) (r : SpawnRec) (x : List ℕ) → IsValid rows → StandApart rows recs → slice_get recs j ≡ Some q → is_out q ≡ true → slice_get recs k ≡ Some r → is_out r ≡ true
    → mem x (ids_of (claim (places rows) r.node r.rw)) ≡ true → bytes_eq (parent_of rows q.node) x ≡ false
claimed_not_parent rows recs j q k r x valid apart at_q out_q at_r out_r there =
    let found = kept_found (is_claimed r.node r.rw) (places rows) x (ids_apart rows valid) there in
    let holds = claim_is_held rows recs apart k r x found.0 at_r out_r found.1 found.2 in
    false_by (bytes_eq (parent_of rows q.node) x) (λ same.
    no_master r (holding_record recs found.0) holds
    (sym (ap (option_map (holder_at recs)) found.1) ∙ ap (holder_of rows recs) (sym ((bytes_eq-Decides (parent_of rows q.node) x).0 same)) ∙ parent_is_masters rows recs valid apart j q at_q out_q))

-- ---- a part stays where nothing moves and no row of its claim changes

unmoved : (t u : Job) (r : SpawnRec) → IsValid t.rows → IsValid u.rows → u.job_id ≡ t.job_id → places u.rows ≡ places t.rows → ((x : List ℕ) → mem x (ids_of (claim (places t.rows) r.node r.rw)) ≡ true → row_in u.rows x ≡ row_in t.rows x) → part_for u r ≡ part_for t r
unmoved t u r valid valid' job same rows =
    part_stays t u r valid valid' job (ap (λ tree. claim tree r.node r.rw) same) rows (same_ancestors t.rows u.rows r.node valid valid' same)

untouched : (n : List ℕ) (f : Row → Row) (rows : List ℕ → Option Row) (x : List ℕ) → bytes_eq n x ≡ false → with_row_changed n f rows x ≡ rows x
untouched n f rows x off = ap (λ b. cond b (option_map f (rows x)) (rows x)) off

-- ---- as another spawn is merged

merged_elsewhere : (t : Job) (q : SpawnRec) (p : PartCopy) (x : List ℕ) → option_map_or (is_claimed q.node q.rw) (place_at (places t.rows) x) false ≡ false → merged_rows t q p x ≡ row_in t.rows x
merged_elsewhere t q p x off = ap (λ b. cond b (part_row p x) (row_in t.rows x)) off

merge_keeps_part : (t : Job) (recs : List SpawnRec) (j : ℕ) (q : SpawnRec) (k : ℕ) (r : SpawnRec) (p : PartCopy) (at : ℕ) → IsValid t.rows → IsValid (put t q p at).rows → StandApart t.rows recs → Fits t q p → slice_get recs j ≡ Some q → is_out q ≡ true → slice_get recs k ≡ Some r
    → is_out r ≡ true → (j ≡ k → ⊥) → part_for (put t q p at) r ≡ part_for t r
merge_keeps_part t recs j q k r p at valid valid' apart fits at_q out_q at_r out_r other =
    let good = apart.good j q at_q out_q in
    unmoved t (put t q p at) r valid valid' refl (put_of_places t q p at valid good fits)
    (λ x there.
    let found = kept_found (is_claimed r.node r.rw) (places t.rows) x (ids_apart t.rows valid) there in
    let own = and_from _ _ out_r found.2 in
    let off = false_by (is_claimed q.node q.rw found.0) (λ claims. other (apart.apart x found.0 j k q r found.1 at_q at_r (and_from _ _ out_q claims) own)) in
    put_of_rows t q p at valid good fits x
    ∙ untouched (parent_of t.rows q.node) _ (merged_rows t q p) x (claimed_not_parent t.rows recs j q k r x valid apart at_q out_q at_r out_r there)
    ∙ merged_elsewhere t q p x (ap (λ o. option_map_or (is_claimed q.node q.rw) o false) found.1 ∙ off))

-- ---- as another spawn is withdrawn

withdrawal_keeps_part : (t : Job) (recs : List SpawnRec) (j : ℕ) (q : SpawnRec) (k : ℕ) (r : SpawnRec) (at : ℕ) → IsValid t.rows → StandApart t.rows recs → slice_get recs j ≡ Some q → is_out q ≡ true → slice_get recs k ≡ Some r
    → is_out r ≡ true → part_for (job_after_withdrawal t q at) r ≡ part_for t r
withdrawal_keeps_part t recs j q k r at valid apart at_q out_q at_r out_r =
    let u = parent_of t.rows q.node in
    let audit = withdrawn_audit q at in
    let known = (above_apart t.rows q.node valid (apart.good j q at_q out_q).has_parent).1 in
    unmoved t (job_after_withdrawal t q at) r valid (append_is_valid u audit t.rows valid) refl (append_of_places u audit t.rows)
    (λ x there. append_of_rows u audit t.rows valid known x ∙ untouched u _ (row_in t.rows) x (claimed_not_parent t.rows recs j q k r x valid apart at_q out_q at_r out_r there))

-- ---- as another spawn goes out

spawn_keeps_part : (w : State) (node worker : List ℕ) (copies : List (List ℕ)) (at k : ℕ) (r : SpawnRec) → IsConsistent w → order_refusal (order.Spawn node worker copies) w ≡ None → slice_get w.records k ≡ Some r → is_out r ≡ true
    → part_for (job_after_spawn w.ticket (next_record w node worker copies at)) r ≡ part_for w.ticket r
spawn_keeps_part w node worker copies at k r kept none at_r out =
    let rows = w.ticket.rows in
    let recs = w.records in
    let new : SpawnRec = next_record w node worker copies at in
    let free = spawn_free w node worker copies none in
    let audit = spawned_audit rows new in
    let u = parent_of rows node in
    let later = rows_with_audit u audit rows in
    let still : places later ≡ places rows = append_of_places u audit rows in
    let valid' = append_is_valid u audit rows kept.valid in
    let more = spawn_keeps_apart w.ticket recs (next_number recs) node worker copies at kept.valid kept.apart free.1 in
    let known = (above_apart rows node kept.valid (allowed rows recs (next_number recs) node copies free.1).1).1 in
    unmoved w.ticket (job_after_spawn w.ticket new) r kept.valid valid' refl still
    (λ x there.
    append_of_rows u audit rows kept.valid known x
    ∙ untouched u _ (row_in rows) x
    (ap (λ tree. bytes_eq (option_map_or (λ i. i) (up (nodes_in tree) node) []) x) (sym still)
    ∙ claimed_not_parent later (recs ++ new ∷ []) (length recs) new k r x valid' more (get_last recs new) refl (get_front recs (new ∷ []) k r at_r) out (ap (λ tree. mem x (ids_of (claim tree r.node r.rw))) still ∙ there)))

-- ---- the laws

ordered_parts : (o : Order) (at : ℕ) (w : State) (k : ℕ) (r : SpawnRec) → IsConsistent w → order_refusal o w ≡ None → slice_get w.records k ≡ Some r → is_out r ≡ true → part_for (allowed_step o at w).next.ticket r ≡ part_for w.ticket r
ordered_parts (order.Edit e) at w k r kept none there out =
    let free = edit_free e w none in
    edit_keeps_parts w.ticket w.records e at k r kept.valid kept.apart free.rows free.held there out
ordered_parts (order.Spawn node worker copies) at w k r kept none there out = spawn_keeps_part w node worker copies at k r kept none there out
ordered_parts (order.Resend s) at w k r kept none there out = refl
ordered_parts (order.Withdraw s) at w k r kept none there out = refl

parts_either : (refusal : Option Refusal) (o : Order) (at : ℕ) (w : State) (k : ℕ) (r : SpawnRec) → IsConsistent w → order_refusal o w ≡ refusal → slice_get w.records k ≡ Some r → is_out r ≡ true → part_for (unless_refused refusal w (allowed_step o at w)).next.ticket r ≡ part_for w.ticket r
parts_either None o at w k r kept none there out = ordered_parts o at w k r kept none there out
parts_either (Some e) o at w k r kept refused there out = refl

pub order_keeps_spawns : OrderKeepsSpawns
order_keeps_spawns o at w s r kept found =
    let place = placed (is_of s) w.records r found in
    (records_stay o at w s r found, λ out. parts_either (order_refusal o w) o at w place.place r kept refl place.there out)

other_place : (recs : List SpawnRec) (j k : ℕ) (q r : SpawnRec) → slice_get recs j ≡ Some q → slice_get recs k ≡ Some r → (r.id ≡ q.id → ⊥) → j ≡ k → ⊥
other_place recs j k q r at_q at_r other same = other (ap (λ o. option_map_or (λ (s : SpawnRec). s.id) o r.id) (sym at_r ∙ ap (slice_get recs) (sym same) ∙ at_q))

abbrev Stays : Message → ℕ → State → State → ℕ → SpawnRec → Type 0
Stays m at w later s r =
    ((is_out r ≡ true) × ((take_step m at w).reply ≡ Ok (reply.Merged s)) × (record_of later.records s ≡ Some (merged_record r)))
    ⊎ (((is_out r ≡ true) × ((take_step m at w).reply ≡ Ok (reply.Freed s)) × (record_of later.records s ≡ Some (withdrawn_record r)))
    ⊎ ((record_of later.records s ≡ Some r) × (is_out r ≡ true → part_for later.ticket r ≡ part_for w.ticket r)))

-- a record, and the part of its spawn, as a part that fits is put in
put_keeps : (m : Message) (p : PartCopy) (at : ℕ) (w : State) (q : SpawnRec) (s : ℕ) (r : SpawnRec)
    → IsConsistent w → are_unreserved p.rows ≡ true → Fits w.ticket q p
    → record_of w.records p.spawn_id ≡ Some q → is_out q ≡ true
    → (take_step m at w).reply ≡ Ok (reply.Merged p.spawn_id) → record_of w.records s ≡ Some r
    → Stays m at w (state_after_merge p at w q) s r
put_keeps m p at w q s r kept free fits found_q out_q told found =
    let place_q = placed (is_of p.spawn_id) w.records q found_q in
    let place = placed (is_of s) w.records r found in
    let later = found_phase Merged q.id w.records s ∙ ap (option_map (phase_if Merged q.id)) found in
    let valid = put_is_valid w.ticket q p at kept.valid (kept.apart.good place_q.place q place_q.there out_q) fits free in
    elim (phase_or Merged q.id r) [
      | inl own ↦
          let is : p.spawn_id ≡ s = sym (number_is w.records p.spawn_id q found_q) ∙ sym own.0 ∙ number_is w.records s r found in
          let same : q ≡ r = same_found q r (record_of w.records s) (ap (record_of w.records) (sym is) ∙ found_q) found in
          inl (ap is_out (sym same) ∙ out_q, told ∙ ap (λ n. Ok (reply.Merged n)) is, later ∙ ap Some own.1)
      | inr other ↦
          inr (inr (
            later ∙ ap Some other.1,
            λ out. merge_keeps_part w.ticket w.records place_q.place q place.place r p at kept.valid valid kept.apart fits place_q.there out_q place.there out (other_place w.records place_q.place place.place q r place_q.there place.there other.0),
          ))
    ]

-- and as a spawn is withdrawn
free_keeps : (m : Message) (t at : ℕ) (w : State) (q : SpawnRec) (s : ℕ) (r : SpawnRec) → IsConsistent w → record_of w.records t ≡ Some q → is_out q ≡ true → (take_step m at w).reply ≡ Ok (reply.Freed t) → record_of w.records s ≡ Some r → Stays m at w (state_after_withdrawal at w q) s r
free_keeps m t at w q s r kept found_q out_q told found =
    let place_q = placed (is_of t) w.records q found_q in
    let place = placed (is_of s) w.records r found in
    let later = found_phase Withdrawn q.id w.records s ∙ ap (option_map (phase_if Withdrawn q.id)) found in
    elim (phase_or Withdrawn q.id r) [
      | inl own ↦
          let is : t ≡ s = sym (number_is w.records t q found_q) ∙ sym own.0 ∙ number_is w.records s r found in
          let same : q ≡ r = same_found q r (record_of w.records s) (ap (record_of w.records) (sym is) ∙ found_q) found in
          inr (inl (ap is_out (sym same) ∙ out_q, told ∙ ap (λ n. Ok (reply.Freed n)) is, later ∙ ap Some own.1))
      | inr other ↦
          inr (inr (
            later ∙ ap Some other.1,
            λ out. withdrawal_keeps_part w.ticket w.records place_q.place q place.place r at kept.valid kept.apart place_q.there out_q place.there out,
          ))
    ]

returned_fits : (m : Message) (p : PartCopy) (w : State) (q : SpawnRec) → m.body ≡ Return p → take_refusal m w ≡ None → record_of w.records p.spawn_id ≡ Some q → is_out q ≡ true → Fits w.ticket q p
returned_fits m p w q is none found out =
    let there = take_free m w none in
    let same : there.0 ≡ q = same_found there.0 q (record_of w.records p.spawn_id) (ap (λ b. record_of w.records (spawn_in b)) (sym is) ∙ there.1) found in
    part_fits w.ticket q p (part_free p w q (ap (λ b. body_refusal b w q) (sym is) ∙ ap (body_refusal m.body w) (sym same) ∙ there.2) out)

pub message_keeps_spawns : MessageKeepsSpawns
message_keeps_spawns m at w s r valid kept found =
    elim (message_ends_spawns m at w) [
      | inl same ↦ inr (inr (ap (λ (v : State). record_of v.records s) same ∙ found, λ out. ap (λ (v : State). part_for v.ticket r) same))
      | inr ends ↦
          elim ends [
            | inl put' ↦
                let p = put'.0 in
                let body : IsValidBody (Return p) = subst IsValidBody put'.2 valid in
                let free = unreserved_rows p.rows p.rw p.ro body.unreserved in
                let fits = returned_fits m p w put'.1 put'.2 put'.3 put'.4 put'.5 in
                subst (λ v. Stays m at w v s r) (sym put'.7) (put_keeps m p at w put'.1 s r kept free fits put'.4 put'.5 put'.6 found)
            | inr free ↦ subst (λ v. Stays m at w v s r) (sym free.7) (free_keeps m free.0 at w free.1 s r kept free.4 free.5 free.6 found)
          ]
    ]
