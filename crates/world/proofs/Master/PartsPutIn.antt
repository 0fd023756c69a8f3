-- A part that comes back to the master: its step and the shop's agree.
use Rattle.std.proofs.Common.{◌≡◌, ◌==◌, ◌∙◌, ◌&&◌, ℕ, Bool, true, false, cond, List, [], ◌∷◌, map, Option, Some, None, is_some, Result, Ok, Err, refl, sym, ap, subst}
use Rattle.std.proofs.lemmas.Bool.{eqb-true}
use Rattle.std.proofs.lemmas.List.Elements.{All-contains, All-head, All-tail}
use Rattle.std.specs.List.{All, Contains}
use Rattle.std.specs.Option.{option_and_then, option_map, option_map_or}
use Rattle.ticket_items.specs.declared.audit.Audit.{Audit}
use Rattle.ticket_items.specs.declared.refusal.Refusal.{Refusal}
use Rattle.ticket_rows.specs.Place.{place_at, places}
use Rattle.ticket_tree.specs.Part.{PartCopy}
use Rattle.ticket_tree.specs.PartView.{part_row}
use Rattle.ticket_tree.specs.PlainEdit.{with_row_changed}
use Rattle.controller.specs.Reply.{answer_to}
use Rattle.controller.specs.declared.body.Body.TheVariants.{Return}
use Rattle.controller.specs.declared.message.Message.{Message}
use Rattle.controller.specs.declared.queue_status.QueueStatus.{QueueStatus}
use Rattle.world_items.specs.declared.reply.Reply.TheVariants as reply
use Rattle.spawn.proofs.Lawful.{placed}
use Rattle.spawn.specs.Records.{is_out}
use Rattle.spawn.specs.Table.{holder_of}
use Rattle.spawn.specs.declared.records.phase.Phase.TheVariants as recorded
use Rattle.spawn.specs.declared.records.spawn_rec.SpawnRec.{SpawnRec}
use Rattle.world_items.specs.declared.holder.Holder.{Holder}
use Rattle.world_items.specs.declared.holder.Holder.TheVariants as held_by
use Rattle.merge.proofs.MergedHolders.{merge_keeps_others, merged_claim_is_masters}
use Rattle.merge.proofs.PutPlaces.{put_of_places}
use Rattle.merge.proofs.PutRows.{put_of_rows}
use Rattle.merge.specs.PlainPut.{merged_rows}
use Rattle.merge.specs.Put as putting
use Rattle.merge.specs.Shape.{Fits}
use Rattle.master_core.proofs.Recorded.{found_phase, number_is, phase_at_place, phase_if}
use Rattle.master_core.specs.Master as master
use Rattle.master_core.specs.Messages as master_messages
use Rattle.worker_core.proofs.Closing.{ended_shut, unclosed}
use Rattle.worker_core.specs.Worker as worker
use Rattle.worker_core.specs.declared.entry.Entry.{Entry}
use Rattle.world.proofs.Shop.Agreeing.{Agrees, StepsAgree}
use Rattle.world.proofs.Runs.Cases.{split, when_false, when_true}
use Rattle.world.proofs.Messages.MessagesTaken.{entry_kept, held_part, master_refuses_nothing, return_fits, returned_part}
use Rattle.world.proofs.Master.HeldBySpawn.{held_spawn}
use Rattle.world.proofs.Master.Edits.{touch_as}
use Rattle.world.proofs.Master.Spawns.{told_as, told_stays, told_there, with_told}
use Rattle.world.proofs.Master.Steps.{with_master}
use Rattle.world.proofs.Master.SpawnsOut.{IsOutThere, claimed_place, good_of, holds_claim, holds_it, out_there, parent_free, parent_is}
use Rattle.world.proofs.Worker.PartHolds.{claims}
use Rattle.world.proofs.Master.Resends.{spawn_found}
use Rattle.world.proofs.Shop.Paths.{same_shop}
use Rattle.world.proofs.Worker.Stored.{and_found}
use Rattle.world.proofs.Worker.TakenSpawns.{only_record, phase_of_entry}
use Rattle.world.specs.Controllers.{Controllers}
use Rattle.world.specs.Messages.{IsInOrder, entry_for}
use Rattle.plain_shop.specs.Shop as plain
use Rattle.plain_shop.specs.Acts as acts
use Rattle.plain_shop.specs.Steps as shop
use Rattle.world.specs.Showing.{entry_of_spawn, now_shown, part_of_spawn, phase_shown, row_at, seen_shown, shop_shown, spawn_shown, tag_of}
use Rattle.world.specs.State.{IsConsistent, State}
use Rattle.controller.specs.Step.{Step, message_step}
use Rattle.master_core.specs.Messages.{merge_taking, repeat_taking, take_step as taken_by_master, while_out}
use Rattle.world.specs.Stepping.{master_moved}
use Rattle.world_items.specs.declared.word.Word.TheVariants.{NoMessage}

-- ---- what is put in

-- the part of a spawn that is out comes back as its entry has it, and fits
record ComesBack (c : Controllers) (r : SpawnRec) (p : PartCopy) : Type 0 where
  there : IsOutThere c r
  fits : Fits c.master.ticket r p
  entry : Entry
  entered : entry_for c r ≡ Some entry
  part : entry.part ≡ Some p
  not_closed : worker.is_closed entry ≡ false

-- the controllers once it is put in
abbrev back_in : Controllers → SpawnRec → PartCopy → ℕ → Controllers
back_in c r p at = with_master c (master_messages.state_after_merge p at c.master r)

-- the audit that tells of it
abbrev told_of : Controllers → SpawnRec → ℕ → Audit
told_of c r at = acts.merged_audit (spawn_shown c r) at

-- ---- entries and spawns

-- each entry is found as before
entry_stays : (c : Controllers) (r : SpawnRec) (p : PartCopy) (at t : ℕ) → entry_of_spawn (back_in c r p at) t ≡ entry_of_spawn c t
entry_stays c r p at t =
    ap (option_and_then (entry_for (back_in c r p at))) (found_phase recorded.Merged r.id c.master.records t) ∙ by (master.record_of c.master.records t)
  where
    either : (b : Bool) (q : SpawnRec) → entry_for (back_in c r p at) (cond b (master.merged_record q) q) ≡ entry_for c q
    either true q = refl
    either false q = refl

    by : (o : Option SpawnRec) → option_and_then (entry_for (back_in c r p at)) (option_map (phase_if recorded.Merged r.id) o) ≡ option_and_then (entry_for c) o
    by None = refl
    by (Some q) = either (master.is_of r.id q) q

-- the spawn is then shown as merged, since its entry isn't closed
spawn_put : (c : Controllers) (r : SpawnRec) (p : PartCopy) (at : ℕ) (b : Bool) (q : SpawnRec) → ComesBack c r p → (b ≡ true → q ≡ r)
    → spawn_shown (back_in c r p at) (cond b (master.merged_record q) q) ≡ cond b (record (spawn_shown c q) { phase = plain.Merged }) (spawn_shown c q)
spawn_put c r p at true q h own =
    ap (λ phase. record (spawn_shown c q) { phase = phase })
    (ap (λ (y : SpawnRec). phase_shown recorded.Merged (entry_for c y)) (own refl) ∙ ap (phase_shown recorded.Merged) h.entered ∙ when_false (worker.is_closed h.entry) plain.Closed plain.Merged h.not_closed)
spawn_put c r p at false q h own = refl

-- each other is shown as before
all_put : (c : Controllers) (r : SpawnRec) (p : PartCopy) (at : ℕ) (records : List SpawnRec) → ComesBack c r p → All (λ q. q.id ≡ r.id → q ≡ r) records
    → map (spawn_shown (back_in c r p at)) (master.with_merged r.id records) ≡ acts.in_phase plain.Merged r.id (map (spawn_shown c) records)
all_put c r p at [] h only = refl
all_put c r p at (q ∷ records) h only =
    ap (λ a. a ∷ map (spawn_shown (back_in c r p at)) (master.with_merged r.id records)) (spawn_put c r p at (master.is_of r.id q) q h (λ own. All-head (λ (y : SpawnRec). y.id ≡ r.id → y ≡ r) q records only (eqb-true q.id r.id own)))
    ∙ ap (λ spawns. cond (q.id == r.id) (record (spawn_shown c q) { phase = plain.Merged }) (spawn_shown c q) ∷ spawns) (all_put c r p at records h (All-tail (λ (y : SpawnRec). y.id ≡ r.id → y ≡ r) q records only))

spawns_put : (c : Controllers) (r : SpawnRec) (p : PartCopy) (at : ℕ) → ComesBack c r p → map (spawn_shown (back_in c r p at)) (master.with_merged r.id c.master.records) ≡ acts.in_phase plain.Merged r.id (map (spawn_shown c) c.master.records)
spawns_put c r p at h = all_put c r p at c.master.records h (only_record c.master.records r.id r h.there.kept.numbered h.there.recorded)

-- ---- rows that are seen

-- what the spawn holds is now as the part has it
now_held : (c : Controllers) (r : SpawnRec) (p : PartCopy) (x : List ℕ) → ComesBack c r p → holds_it c r x ≡ true → now_shown c x ≡ part_row p x
now_held c r p x h held =
    ap (row_at c x) (held_spawn r.id (master.holder c.master x) held)
    ∙ ap (λ o. option_map_or (λ q. part_row q x) (option_and_then (λ (e : Entry). e.part) o) (seen_shown c x)) (ap (option_and_then (entry_for c)) h.there.recorded ∙ h.entered)
    ∙ ap (λ o. option_map_or (λ q. part_row q x) o (seen_shown c x)) h.part

rows_put : (c : Controllers) (r : SpawnRec) (p : PartCopy) (x : List ℕ) → ComesBack c r p → merged_rows c.master.ticket r p x ≡ acts.put_in r.id (shop_shown c) x
rows_put c r p x h =
    let claimed = claims c.master.ticket r x in
    let seen = seen_shown c x in
    let is = holds_claim c r x h.there in
    split (holds_it c r x)
    (λ held. when_true claimed (part_row p x) seen (sym is ∙ held) ∙ sym (now_held c r p x h held) ∙ sym (when_true (holds_it c r x) (now_shown c x) seen held))
    (λ free. when_false claimed (part_row p x) seen (sym is ∙ free) ∙ sym (when_false (holds_it c r x) (now_shown c x) seen free))

seen_put : (c : Controllers) (r : SpawnRec) (p : PartCopy) (at : ℕ) (x : List ℕ) → ComesBack c r p → seen_shown (back_in c r p at) x ≡ acts.with_parent_audit (places c.master.ticket.rows) r.node (told_of c r at) (acts.put_in r.id (shop_shown c)) x
seen_put c r p at x h =
    let t = c.master.ticket in
    put_of_rows t r p at h.there.kept.valid (good_of c r h.there) h.fits x
    ∙ ap (λ u. with_row_changed u (with_told (told_of c r at)) (merged_rows t r p) x) (parent_is c r h.there)
    ∙ touch_as h.there.above (with_told (told_of c r at)) (merged_rows t r p) (acts.put_in r.id (shop_shown c)) x (rows_put c r p x h)
    ∙ sym (told_there (places t.rows) r.node h.there.above (told_of c r at) (acts.put_in r.id (shop_shown c)) x h.there.is_above)

-- ---- holders

-- the master holds what the spawn held, and all else has the holder that it had
holder_put : (c : Controllers) (r : SpawnRec) (p : PartCopy) (at : ℕ) (x : List ℕ) → ComesBack c r p → master.holder (back_in c r p at).master x ≡ acts.holders_after_return r.id (master.holder c.master) x
holder_put c r p at x h =
    let m = c.master in
    let t = m.ticket in
    let place = placed (master.is_of r.id) m.records r h.there.recorded in
    let is = holds_claim c r x h.there in
    ap (λ recs. holder_of (putting.put t r p at).rows recs x) (phase_at_place recorded.Merged m.records place.place r h.there.kept.numbered place.there)
    ∙ split (holds_it c r x)
    (λ held.
    let q = claimed_place r (place_at (places t.rows) x) (sym is ∙ held) in
    merged_claim_is_masters t m.records place.place r p at h.there.kept.valid h.there.kept.apart place.there h.there.out h.fits x q.0 q.1 q.2
    ∙ sym (when_true (holds_it c r x) (Some held_by.Master) (master.holder m x) held))
    (λ free.
    merge_keeps_others t m.records place.place r p at h.there.kept.valid h.there.kept.apart place.there h.there.out h.fits x (sym is ∙ free)
    ∙ sym (when_false (holds_it c r x) (Some held_by.Master) (master.holder m x) free))

-- ---- rows now

-- what the spawn doesn't hold is now as it was, but for the audit
now_elsewhere : (c : Controllers) (r : SpawnRec) (p : PartCopy) (at : ℕ) (x : List ℕ) (o : Option Holder) → ComesBack c r p → holds_it c r x ≡ false → master.holder c.master x ≡ o
    → row_at (back_in c r p at) x o ≡ acts.with_parent_audit (places c.master.ticket.rows) r.node (told_of c r at) (now_shown c) x
now_elsewhere c r p at x None h free is =
    let put = when_false (holds_it c r x) (now_shown c x) (seen_shown c x) free in
    seen_put c r p at x h ∙ told_as (places c.master.ticket.rows) r.node h.there.above (told_of c r at) (acts.put_in r.id (shop_shown c)) (now_shown c) x h.there.is_above (put ∙ sym (ap (row_at c x) is))
now_elsewhere c r p at x (Some held_by.Master) h free is =
    let put = when_false (holds_it c r x) (now_shown c x) (seen_shown c x) free in
    seen_put c r p at x h ∙ told_as (places c.master.ticket.rows) r.node h.there.above (told_of c r at) (acts.put_in r.id (shop_shown c)) (now_shown c) x h.there.is_above (put ∙ sym (ap (row_at c x) is))
now_elsewhere c r p at x (Some (held_by.Spawn t)) h free is =
    let tree = places c.master.ticket.rows in
    let told = told_of c r at in
    let put = when_false (holds_it c r x) (now_shown c x) (seen_shown c x) free in
    let other = parent_free c r x t h.there is in
    ap (λ o. option_map_or (λ q. part_row q x) (option_and_then (λ (e : Entry). e.part) o) (seen_shown (back_in c r p at) x)) (entry_stays c r p at t)
    ∙ ap (option_map_or (λ q. part_row q x) (part_of_spawn c t)) (seen_put c r p at x h ∙ told_stays tree r.node h.there.above told (acts.put_in r.id (shop_shown c)) x h.there.is_above other ∙ put)
    ∙ sym (told_stays tree r.node h.there.above told (now_shown c) x h.there.is_above other ∙ ap (row_at c x) is)

now_put : (c : Controllers) (r : SpawnRec) (p : PartCopy) (at : ℕ) (x : List ℕ) → ComesBack c r p → now_shown (back_in c r p at) x ≡ acts.with_parent_audit (places c.master.ticket.rows) r.node (told_of c r at) (now_shown c) x
now_put c r p at x h =
    let d = back_in c r p at in
    let o = master.holder c.master x in
    ap (row_at d x) (holder_put c r p at x h)
    ∙ split (holds_it c r x)
    (λ held.
    ap (row_at d x) (when_true (holds_it c r x) (Some held_by.Master) o held) ∙ seen_put c r p at x h
    ∙ told_as (places c.master.ticket.rows) r.node h.there.above (told_of c r at) (acts.put_in r.id (shop_shown c)) (now_shown c) x h.there.is_above (when_true (holds_it c r x) (now_shown c x) (seen_shown c x) held))
    (λ free. ap (row_at d x) (when_false (holds_it c r x) (Some held_by.Master) o free) ∙ now_elsewhere c r p at x o h free refl)

-- ---- the step

-- the part that is brought back
abbrev part_returned : List ℕ → List ℕ → ℕ → PartCopy → Message
part_returned sender receiver sent p = record { sender = sender; receiver = receiver; at = sent; body = Return p }

-- the master's step, by why the part is refused and by the record of its spawn
abbrev step_by : master.State → Message → PartCopy → ℕ → Option Refusal → Option SpawnRec → Step master.State Message
step_by m message p at why o = message_step m.name message at why m (while_out (merge_taking p at m) (repeat_taking p m) o)

-- the step on one that isn't refused, by whether its spawn is out
abbrev step_on : master.State → Message → PartCopy → ℕ → SpawnRec → Bool → Step master.State Message
step_on m message p at r out = message_step m.name message at None m (cond out (merge_taking p at m r) (repeat_taking p m))

back_by : (out : Bool) (c : Controllers) (message : Message) (p : PartCopy) (at : ℕ) (r : SpawnRec) → r.id ≡ p.spawn_id → (out ≡ true → ComesBack c r p) → ((told : Result QueueStatus ℕ) → option_map tag_of (answer_to c.master.name message at told) ≡ Some (shop.ToReturn p.spawn_id))
    → Agrees (master_moved c (step_on c.master message p at r out)) (cond out (shop.sending_step (reply.Merged r.id) (acts.after_merge at (spawn_shown c r) (shop_shown c)) (shop.ToReturn r.id)) (shop.sending_step (reply.Already r.id) (shop_shown c) (shop.ToReturn r.id)))
back_by true c message p at r number back answered =
    let h = back refl in
    record {
      reply = ap (λ n. Ok (reply.Merged n)) (sym number);
      next =
          same_shop _ _
          (record {
            master = refl;
            workers = refl;
            job = refl;
            tree = put_of_places c.master.ticket r p at h.there.kept.valid (good_of c r h.there) h.fits;
            seen = λ x. seen_put c r p at x h;
            now = λ x. now_put c r p at x h;
            holder = λ x. holder_put c r p at x h;
            spawns = spawns_put c r p at h;
          });
      sent = answered (Ok (master_messages.end_of_part p)) ∙ ap (λ n. Some (shop.ToReturn n)) (sym number);
    }
back_by false c message p at r number back answered =
    record { reply = ap (λ n. Ok (reply.Already n)) (sym number); next = refl; sent = answered (Ok (master_messages.end_of_part p)) ∙ ap (λ n. Some (shop.ToReturn n)) (sym number) }

and_all : (b : Bool) → (b && true) ≡ b
and_all true = refl
and_all false = refl

-- what comes back is as its entry has it, on which the work has ended
comes_back : (w : State) (sender receiver : List ℕ) (sent : ℕ) (p : PartCopy) → IsConsistent w → (h : IsInOrder w.controllers (part_returned sender receiver sent p)) → is_out h.spawn ≡ true → ComesBack w.controllers h.spawn p
comes_back w sender receiver sent p ok h out =
    let c = w.controllers in
    let r = h.spawn in
    let number = number_is c.master.records p.spawn_id r h.recorded in
    let recorded : master.record_of c.master.records r.id ≡ Some r = ap (master.record_of c.master.records) number ∙ h.recorded in
    let ended = and_found _ (entry_for c r) h.says in
    let held = held_part c r ended.0 ok.recorded recorded ended.1 out (ended_shut ended.0 ended.2.0).1 in
    let kept = entry_kept c r.worker r.id ended.0 ok.workers ended.1 in
    record {
      there = out_there c r ok.master recorded out;
      fits = return_fits c p sender receiver sent ok.recorded h out;
      entry = ended.0;
      entered = ended.1;
      part = held.1 ∙ ap Some (sym (returned_part r.worker c.master.name sender receiver sent ended.0 p held.0 held.1 ended.2.1));
      not_closed = unclosed ended.0 (sym kept.held ∙ ap is_some held.1);
    }

-- its spawn is shown as finished while it is out
done_shown : (c : Controllers) (r : SpawnRec) (e : Entry) → entry_for c r ≡ Some e → worker.is_ended e ≡ true → plain.is_done (spawn_shown c r).phase ≡ is_out r
done_shown c r e found ended =
    ap (λ o. plain.is_done (phase_shown r.phase o)) found ∙ (phase_of_entry r.phase e).done_so ∙ ap (λ b. is_out r && b) ended ∙ and_all (is_out r)

pub part_is_put_in : (w : State) (sender receiver : List ℕ) (sent : ℕ) (p : PartCopy) (at : ℕ) → IsConsistent w → Contains w.messages (record { sender = sender; receiver = receiver; at = sent; body = Return p })
    → StepsAgree (Ok (master_moved w.controllers (taken_by_master (record { sender = sender; receiver = receiver; at = sent; body = Return p }) at w.controllers.master))) (shop.on_message at (shop_shown w.controllers) (shop.Return p.spawn_id))
part_is_put_in w sender receiver sent p at ok there =
    let c = w.controllers in
    let s = shop_shown c in
    let m = part_returned sender receiver sent p in
    let h = All-contains (IsInOrder c) w.messages m ok.messages.each there in
    let r = h.spawn in
    let number = number_is c.master.records p.spawn_id r h.recorded in
    let ended = and_found _ (entry_for c r) h.says in
    let merges = shop.sending_step (reply.Merged r.id) (acts.after_merge at (spawn_shown c r) s) (shop.ToReturn r.id) in
    let again = shop.sending_step (reply.Already r.id) s (shop.ToReturn r.id) in
    subst (StepsAgree (Ok (master_moved c (taken_by_master m at c.master))))
    (sym (ap (λ o. option_map_or (λ a. Ok (shop.on_return at s a)) o (Err NoMessage)) (spawn_found c p.spawn_id ∙ ap (option_map (spawn_shown c)) h.recorded)))
    (subst (λ why. Agrees (master_moved c (step_by c.master m p at why (master.record_of c.master.records p.spawn_id))) (shop.on_return at s (spawn_shown c r))) (sym (master_refuses_nothing c m ok.recorded ok.back refl h))
    (subst (λ o. Agrees (master_moved c (step_by c.master m p at None o)) (shop.on_return at s (spawn_shown c r))) (sym h.recorded)
    (subst (λ b. Agrees (master_moved c (step_on c.master m p at r (is_out r))) (cond b merges again)) (sym (done_shown c r ended.0 ended.1 ended.2.0))
    (back_by (is_out r) c m p at r number (comes_back w sender receiver sent p ok h) (λ told. refl)))))
