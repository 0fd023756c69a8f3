-- What is to be given up comes to its worker: the controllers' step and the shop's agree.
use Rattle.std.proofs.Common.{◌≡◌, ◌∙◌, ℕ, true, false, cond, List, map, Option, Some, None, Result, Ok, Err, refl, sym, ap, subst}
use Rattle.std.proofs.lemmas.List.Elements.{All-contains}
use Rattle.std.specs.List.{Contains}
use Rattle.std.specs.Option.{option_and_then, option_map, option_map_or}
use Rattle.ticket_items.specs.Act.{NodeChange, NewStatus}
use Rattle.ticket_items.specs.declared.refusal.Refusal.{Refusal}
use Rattle.ticket_tree.specs.Part.{PartCopy}
use Rattle.ticket_tree.specs.PartView.{part_row}
use Rattle.ticket_tree.specs.PlainEdit.{act_rows_by_id}
use Rattle.controller.specs.Reply.{answer_to}
use Rattle.controller.specs.declared.body.Body.TheVariants.{Abort}
use Rattle.controller.specs.declared.message.Message.{Message}
use Rattle.controller.specs.declared.queue_status.QueueStatus.{QueueStatus}
use Rattle.world_items.specs.declared.reply.Reply.TheVariants as reply
use Rattle.spawn.proofs.Outside.{some_of}
use Rattle.spawn.specs.declared.records.phase.Phase.TheVariants as recorded
use Rattle.spawn.specs.declared.records.spawn_rec.SpawnRec.{SpawnRec}
use Rattle.world_items.specs.declared.holder.Holder.TheVariants as held_by
use Rattle.master_core.proofs.Recorded.{number_is}
use Rattle.master_core.specs.Master as master
use Rattle.worker_core.proofs.AtNumber.{found_holds}
use Rattle.worker_core.proofs.Closing.{aborted_number, aborted_shut}
use Rattle.worker_core.proofs.EditedPart.{ending_free}
use Rattle.worker_core.proofs.Kept.{kept_part}
use Rattle.worker_core.proofs.Refusals.{of_open}
use Rattle.worker_core.specs.Messages.{abort_taking, aborted_entry, again_reply, decline_taking}
use Rattle.worker_core.specs.Messages.{take_step as taken_by_worker}
use Rattle.worker_core.specs.Orders as orders
use Rattle.worker_core.specs.Worker as worker
use Rattle.world_items.specs.declared.end.End.TheVariants.{Aborted}
use Rattle.worker_core.specs.declared.entry.Entry.{Entry}
use Rattle.world.proofs.Shop.Agreeing.{Agrees, StepsAgree}
use Rattle.world.proofs.Runs.Cases.{split, split_some}
use Rattle.world.proofs.Messages.MessagesTaken.{worker_refuses_nothing}
use Rattle.world.proofs.Worker.EntryStored.{HasStored, row_stored, spawns_stay, spawns_stored}
use Rattle.world.proofs.Master.HeldBySpawn.{good_record}
use Rattle.world.proofs.Worker.PartsTaken.{again_shown, entry_before, entry_behind, out_still}
use Rattle.world.proofs.Master.Resends.{spawn_found}
use Rattle.world.proofs.Shop.Paths.{same_shop}
use Rattle.world.proofs.Worker.TakenSpawns.{HasRecord, entry_record, phase_away, phase_of_entry, phase_out}
use Rattle.world.proofs.Worker.Edits.{changed_stored, edited_now, kept_entry, open_has_part, open_out, open_shown, part_fits}
use Rattle.world.proofs.Worker.Finishes.{root_held, root_spawned}
use Rattle.world.specs.Controllers.{entry_at, is_named, worker_of}
use Rattle.world.specs.Messages.{HasComeBack, IsInOrder, entry_for}
use Rattle.plain_shop.specs.Shop.{Declined, Done, PlainState, is_away, is_open}
use Rattle.plain_shop.specs.Acts as acts
use Rattle.plain_shop.specs.Steps as shop
use Rattle.world.specs.Showing.{entry_of_spawn, now_shown, phase_shown, row_at, seen_shown, shop_shown, spawn_shown, tag_of}
use Rattle.world.specs.State.{IsConsistent, State}
use Rattle.controller.specs.Step.{Step, Taking, message_step}
use Rattle.world.specs.Stepping.{worker_moved}
use Rattle.world_items.specs.declared.word.Word.TheVariants.{NoMessage}

-- the message that asks a worker to give a spawn up
abbrev abort_sent : List ℕ → worker.State → ℕ → ℕ → Message
abort_sent sender v sent s = record { sender = sender; receiver = v.name; at = sent; body = Abort s }

-- what comes of it, and the worker then, by the entry that it has
abbrev coming : worker.State → ℕ → ℕ → Option Entry → Taking worker.State
coming v s at o = option_map_or (abort_taking s at v) o (decline_taking s at v)

abbrev next_by : worker.State → ℕ → ℕ → Option Entry → worker.State
next_by v s at o = (coming v s at o).next

-- its step, by why the message is refused and by the entry
abbrev step_by : worker.State → Message → ℕ → ℕ → Option Refusal → Option Entry → Step worker.State Message
step_by v m s at why o = message_step v.name m at why v (coming v s at o)

-- its answer goes back
abbrev IsAnswered : worker.State → Message → ℕ → ℕ → Type 0
IsAnswered v m s at = (told : Result QueueStatus ℕ) → option_map tag_of (answer_to v.name m at told) ≡ Some (shop.ToAbort s)

-- ---- a spawn of which there is no entry

-- what it holds is shown as it is seen
seen_alone : (w : State) (s : ℕ) (r : SpawnRec) (x : List ℕ) → master.record_of w.controllers.master.records s ≡ Some r → entry_for w.controllers r ≡ None → master.holder w.controllers.master x ≡ Some (held_by.Spawn s)
    → seen_shown w.controllers x ≡ row_at w.controllers x (master.holder w.controllers.master x)
seen_alone w s r x recorded none held =
    let c = w.controllers in
    let missing : entry_of_spawn c s ≡ None = ap (option_and_then (entry_for c)) recorded ∙ none in
    sym (ap (row_at c x) held ∙ ap (λ o. option_map_or (λ q. part_row q x) (option_and_then (λ (e : Entry). e.part) o) (seen_shown c x)) missing)

declines : (w : State) (v : worker.State) (m : Message) (s at : ℕ) (r : SpawnRec) → IsConsistent w → worker_of w.controllers.workers v.name ≡ Some v → master.record_of w.controllers.master.records s ≡ Some r → r.worker ≡ v.name → worker.entry_of v.entries s ≡ None → entry_for w.controllers r ≡ None
    → IsAnswered v m s at → Agrees (worker_moved w.controllers v (step_by v m s at None None)) (shop.on_abort at (shop_shown w.controllers) (spawn_shown w.controllers r))
declines w v m s at r ok found recorded' named missing none answered =
    let c = w.controllers in
    let p = shop_shown c in
    let a = spawn_shown c r in
    let new = worker.declined_entry s at in
    let next : worker.State = next_by v s at None in
    let number = number_is c.master.records s r recorded' in
    let out = out_still c r (found_holds (HasComeBack c) (master.is_of s) c.master.records r recorded' ok.back) none in
    let stored : HasStored c v.name s next new r =
    record {
      old = v;
      found = found;
      own = refl;
      others = λ t other. entry_before v.entries new s t refl other;
      stored = entry_behind v.entries new s refl missing;
      recorded = recorded';
      named = named;
      numbered = ok.master.numbered;
    } in
    subst
    (λ b. Agrees (worker_moved c v (step_by v m s at None None))
    (cond b (shop.sending_step (reply.Declined r.id) (acts.after_decline r.id p) (shop.ToAbort r.id))
    (cond (is_open a.phase) (shop.sending_step (reply.Ended r.id) (acts.after_finish Aborted at a p) (shop.ToAbort r.id)) (shop.sending_step (shop.repeat_reply a) p (shop.ToAbort r.id)))))
    (sym (phase_away r.phase (entry_for c r) none out))
    (record {
      reply = ap (λ n. Ok (reply.Declined n)) (sym number);
      next =
          same_shop _ _
          (record {
            master = refl;
            workers = refl;
            job = refl;
            tree = refl;
            seen = λ x. refl;
            now = λ x. row_stored c v.name s next new r stored (λ o. o) x (master.holder c.master x) (λ held. seen_alone w s r x recorded' none held) (λ not_own. refl);
            holder = λ x. refl;
            spawns = spawns_stored c v.name s next new r Declined stored (ap (λ phase. phase_shown phase (Some new)) (phase_out r.phase out))
                ∙ ap (λ n. acts.in_phase Declined n (map (spawn_shown c) c.master.records)) (sym number);
          });
      sent = answered (coming v s at None).response ∙ ap (λ n. Some (shop.ToAbort n)) (sym number);
    })

-- ---- a spawn of which there is an entry

-- the shop's step on one that isn't on the way
abbrev taken_step : State → ℕ → SpawnRec → Step PlainState shop.Tag
taken_step w at r =
    let a = spawn_shown w.controllers r in
    let p = shop_shown w.controllers in
    cond (is_open a.phase) (shop.sending_step (reply.Ended r.id) (acts.after_finish Aborted at a p) (shop.ToAbort r.id)) (shop.sending_step (shop.repeat_reply a) p (shop.ToAbort r.id))

-- the spawn of an entry isn't on the way
not_away : (w : State) (v : worker.State) (m : Message) (s at : ℕ) (e : Entry) → (h : HasRecord w.controllers v.name s e) → Agrees (worker_moved w.controllers v (step_by v m s at None (Some e))) (taken_step w at h.spawn)
    → Agrees (worker_moved w.controllers v (step_by v m s at None (Some e))) (shop.on_abort at (shop_shown w.controllers) (spawn_shown w.controllers h.spawn))
not_away w v m s at e h agrees =
    let c = w.controllers in
    let r = h.spawn in
    let p = shop_shown c in
    subst (λ b. Agrees (worker_moved c v (step_by v m s at None (Some e))) (cond b (shop.sending_step (reply.Declined r.id) (acts.after_decline r.id p) (shop.ToAbort r.id)) (taken_step w at r)))
    (sym (ap (λ o. is_away (phase_shown r.phase o)) h.entered ∙ (phase_of_entry r.phase e).away))
    agrees

-- an open one ends, as its worker ends it
ends : (w : State) (v : worker.State) (m : Message) (s at : ℕ) (e : Entry) → IsConsistent w → worker_of w.controllers.workers v.name ≡ Some v → worker.entry_of v.entries s ≡ Some e → (h : HasRecord w.controllers v.name s e) → worker.is_open e ≡ true
    → IsAnswered v m s at → Agrees (worker_moved w.controllers v (step_by v m s at None (Some e))) (taken_step w at h.spawn)
ends w v m s at e ok found has_entry h open' answered =
    let c = w.controllers in
    let p = shop_shown c in
    let r = h.spawn in
    let a = spawn_shown c r in
    let next : worker.State = next_by v s at (Some e) in
    let new = aborted_entry at e in
    let same : new ≡ orders.finished_entry Aborted at e = ap (λ b. cond b (orders.finished_entry Aborted at e) e) open' in
    let kept = kept_entry w v s e ok found has_entry in
    let opened = some_of (worker.open_part e) (open_has_part e kept ∙ open') in
    let q : PartCopy = opened.0 in
    let of = of_open e q opened.1 in
    let part = kept_part e q of.1 kept in
    let out = open_out c v.name s e h open' in
    let fits = part_fits c v.name s e q h out open' of.1 in
    let good = good_record c.master s r ok.master h.recorded out in
    let root = root_spawned c.master.ticket r q ok.master.valid good fits in
    let held = root_held c.master s r e q ok.master h.recorded out fits part in
    let stored = changed_stored w v s e (aborted_entry at) (aborted_number at) ok found has_entry h in
    subst
    (λ b. Agrees (worker_moved c v (step_by v m s at None (Some e))) (cond b (shop.sending_step (reply.Ended r.id) (acts.after_finish Aborted at a p) (shop.ToAbort r.id)) (shop.sending_step (shop.repeat_reply a) p (shop.ToAbort r.id))))
    (sym (open_shown c v.name s e h ∙ open'))
    (record {
      reply = ap (λ b. Ok (cond b (reply.Ended s) (again_reply s e))) open' ∙ ap (λ n. Ok (reply.Ended n)) (sym h.number);
      next =
          same_shop _ _
          (record {
            master = refl;
            workers = refl;
            job = refl;
            tree = refl;
            seen = λ x. refl;
            now = λ x. edited_now c v.name s (orders.end_edit q Aborted) at next e new q h stored of.1 (ap (λ (y : Entry). y.part) same ∙ ap (option_map (orders.ended_part Aborted at)) of.1) part refl (ending_free q Aborted part.valid) held x
                ∙ ap (λ n. act_rows_by_id (NodeChange n (NewStatus (worker.end_word Aborted))) at (now_shown c) x) root;
            holder = λ x. refl;
            spawns = spawns_stored c v.name s next new r Done stored (ap (λ phase. phase_shown phase (Some new)) (phase_out r.phase out) ∙ ap (λ (y : Entry). phase_shown recorded.Out (Some y)) same)
                ∙ ap (λ n. acts.in_phase Done n (map (spawn_shown c) c.master.records)) (sym h.number);
          });
      sent = answered (coming v s at (Some e)).response ∙ ap (λ n. Some (shop.ToAbort n)) (sym h.number);
    })

-- the entry of a spawn is found where its record is
entry_there : (w : State) (name : List ℕ) (s : ℕ) (e : Entry) → (h : HasRecord w.controllers name s e) → entry_of_spawn w.controllers s ≡ Some e
entry_there w name s e h = ap (option_and_then (entry_for w.controllers)) h.recorded ∙ h.entered

-- what isn't open stays
stays : (w : State) (v : worker.State) (m : Message) (s at : ℕ) (e : Entry) → IsConsistent w → worker_of w.controllers.workers v.name ≡ Some v → worker.entry_of v.entries s ≡ Some e → (h : HasRecord w.controllers v.name s e) → worker.is_open e ≡ false
    → IsAnswered v m s at → Agrees (worker_moved w.controllers v (step_by v m s at None (Some e))) (taken_step w at h.spawn)
stays w v m s at e ok found has_entry h shut answered =
    let c = w.controllers in
    let p = shop_shown c in
    let r = h.spawn in
    let a = spawn_shown c r in
    let next : worker.State = next_by v s at (Some e) in
    let new = aborted_entry at e in
    let same : new ≡ e = aborted_shut at e shut in
    let stored = changed_stored w v s e (aborted_entry at) (aborted_number at) ok found has_entry h in
    let back = found_holds (HasComeBack c) (master.is_of s) c.master.records r h.recorded ok.back in
    let row = λ (x : List ℕ) (y : Entry). option_map_or (λ q. part_row q x) y.part (seen_shown c x) in
    subst
    (λ b. Agrees (worker_moved c v (step_by v m s at None (Some e))) (cond b (shop.sending_step (reply.Ended r.id) (acts.after_finish Aborted at a p) (shop.ToAbort r.id)) (shop.sending_step (shop.repeat_reply a) p (shop.ToAbort r.id))))
    (sym (open_shown c v.name s e h ∙ shut))
    (record {
      reply = ap (λ b. Ok (cond b (reply.Ended s) (again_reply s e))) shut ∙ ap Ok (again_shown c s r e h.number back h.entered);
      next =
          same_shop _ _
          (record {
            master = refl;
            workers = refl;
            job = refl;
            tree = refl;
            seen = λ x. refl;
            now = λ x. row_stored c v.name s next new r stored (λ o. o) x (master.holder c.master x)
                (λ held. ap (row x) same
                ∙ sym (ap (row_at c x) held ∙ ap (λ o. option_map_or (λ q. part_row q x) (option_and_then (λ (y : Entry). y.part) o) (seen_shown c x)) (entry_there w v.name s e h)))
                (λ not_own. refl);
            holder = λ x. refl;
            spawns = spawns_stay c v.name s next new r stored (ap (λ (y : Entry). phase_shown r.phase (Some y)) same ∙ ap (phase_shown r.phase) (sym h.entered));
          });
      sent = answered (coming v s at (Some e)).response ∙ ap (λ n. Some (shop.ToAbort n)) (sym h.number);
    })

-- ---- the step

pub spawn_is_given_up : (w : State) (v : worker.State) (sender : List ℕ) (sent s at : ℕ) → IsConsistent w → worker_of w.controllers.workers v.name ≡ Some v
    → Contains w.messages (record { sender = sender; receiver = v.name; at = sent; body = Abort s })
    → StepsAgree (Ok (worker_moved w.controllers v (taken_by_worker (record { sender = sender; receiver = v.name; at = sent; body = Abort s }) at v))) (shop.on_message at (shop_shown w.controllers) (shop.Abort s))
spawn_is_given_up w v sender sent s at ok found there =
    let c = w.controllers in
    let plain = shop_shown c in
    let m = abort_sent sender v sent s in
    let h = All-contains (IsInOrder c) w.messages m ok.messages.each there in
    let r = h.spawn in
    let own = worker.entry_of v.entries s in
    let number = number_is c.master.records s r h.recorded in
    let knows = found_holds (λ (u : worker.State). u.master ≡ c.master.name) (is_named v.name) c.workers v found ok.known in
    let entered : entry_for c r ≡ own =
    ap (λ n. entry_at c.workers n r.id) (sym h.to) ∙ ap (entry_at c.workers v.name) number ∙ ap (option_and_then (λ (u : worker.State). worker.entry_of u.entries s)) found in
    let known = λ (q : SpawnRec) (is : master.record_of c.master.records s ≡ Some q). ap (λ o. option_map_or (λ a. Ok (shop.on_abort at plain a)) o (Err NoMessage)) (spawn_found c s ∙ ap (option_map (spawn_shown c)) is) in
    let none = worker_refuses_nothing c v m found refl knows refl h in
    split_some own
    (λ e has.
    let on = entry_record w v.name s v e ok found has in
    subst (StepsAgree (Ok (worker_moved c v (taken_by_worker m at v)))) (sym (known on.spawn on.recorded))
    (subst (λ why. Agrees (worker_moved c v (step_by v m s at why own)) (shop.on_abort at plain (spawn_shown c on.spawn))) (sym none)
    (subst (λ o. Agrees (worker_moved c v (step_by v m s at None o)) (shop.on_abort at plain (spawn_shown c on.spawn))) (sym has)
    (not_away w v m s at e on
    (split (worker.is_open e)
    (λ open'. ends w v m s at e ok found has on open' (λ told. refl))
    (λ shut. stays w v m s at e ok found has on shut (λ told. refl)))))))
    (λ missing.
    subst (StepsAgree (Ok (worker_moved c v (taken_by_worker m at v)))) (sym (known r h.recorded))
    (subst (λ why. Agrees (worker_moved c v (step_by v m s at why own)) (shop.on_abort at plain (spawn_shown c r))) (sym none)
    (subst (λ o. Agrees (worker_moved c v (step_by v m s at None o)) (shop.on_abort at plain (spawn_shown c r))) (sym missing)
    (declines w v m s at r ok found h.recorded (sym h.to) missing (entered ∙ missing) (λ told. refl)))))
