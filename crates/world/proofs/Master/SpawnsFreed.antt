-- The answer to what was to be given up comes to the master: its step and the shop's agree. It takes back what was declined, and notes all else.
use Rattle.std.proofs.Common.{◌≡◌, ◌==◌, ◌∙◌, ◌&&◌, ℕ, Bool, true, false, cond, List, [], ◌∷◌, map, Option, Some, None, Result, Ok, Err, is_some, refl, sym, ap, subst}
use Rattle.std.proofs.lemmas.Bool.{true≢false}
use Rattle.std.specs.Option.{option_and_then, option_map, option_map_or}
use Rattle.ticket_items.specs.declared.audit.Audit.{Audit}
use Rattle.ticket_items.specs.declared.refusal.Refusal.{Refusal}
use Rattle.ticket_rows.specs.Place.{place_at, places, row_in}
use Rattle.ticket_rows.specs.Ticket.{has_node}
use Rattle.ticket_tree.proofs.PlainOneRow.{append_of_places, append_of_rows}
use Rattle.ticket_tree.specs.PartView.{part_row}
use Rattle.ticket_tree.specs.PlainEdit.{with_row_changed}
use Rattle.controller.specs.Reply.{answer_to}
use Rattle.controller.specs.declared.command.Command.TheVariants as command
use Rattle.controller.specs.declared.message.Message.{Message}
use Rattle.controller.specs.declared.queue_status.QueueStatus.{QueueStatus}
use Rattle.controller.specs.declared.queue_status.QueueStatus.TheVariants as queue
use Rattle.world_items.specs.declared.reply.Reply.TheVariants as reply
use Rattle.spawn.proofs.Ended.{end_keeps_others, ended_claim_is_masters}
use Rattle.spawn.proofs.Lawful.{placed}
use Rattle.spawn.specs.Records.{is_out}
use Rattle.spawn.specs.Spawning.{parent_of}
use Rattle.spawn.specs.Table.{holder_of}
use Rattle.spawn.specs.declared.records.phase.Phase.TheVariants as recorded
use Rattle.spawn.specs.declared.records.spawn_rec.SpawnRec.{SpawnRec}
use Rattle.world_items.specs.declared.holder.Holder.{Holder}
use Rattle.world_items.specs.declared.holder.Holder.TheVariants as held_by
use Rattle.merge.specs.Withdrawal.{job_after_withdrawal}
use Rattle.master_core.proofs.Recorded.{found_phase, number_is, phase_at_place, phase_if}
use Rattle.master_core.specs.Master as master
use Rattle.master_core.specs.Messages as master_messages
use Rattle.master_core.specs.Messages.{note_taking, take_step as taken_by_master, while_out, withdrawal_taking}
use Rattle.worker_core.specs.Worker as worker
use Rattle.worker_core.specs.declared.entry.Entry.{Entry}
use Rattle.worker_core.specs.declared.stage.Stage.{Stage}
use Rattle.worker_core.specs.declared.stage.Stage.TheVariants as stages
use Rattle.world.proofs.Shop.Agreeing.{Agrees, StepsAgree}
use Rattle.world.proofs.Messages.AnswersCome.{answer}
use Rattle.world.proofs.Runs.Cases.{split, when_false, when_true}
use Rattle.world.proofs.Messages.MessagesTaken.{entry_kept, master_refuses_nothing}
use Rattle.world.proofs.Master.HeldBySpawn.{held_spawn}
use Rattle.world.proofs.Master.Spawns.{told_as, told_stays, told_there, with_told}
use Rattle.world.proofs.Master.Steps.{with_master}
use Rattle.world.proofs.Master.SpawnsOut.{IsOutThere, above_stands, claimed_place, holds_claim, holds_it, out_there, parent_free, parent_is}
use Rattle.world.proofs.Master.Resends.{spawn_found}
use Rattle.world.proofs.Shop.Paths.{same_shop}
use Rattle.world.proofs.Worker.Stored.{and_found}
use Rattle.world.proofs.Worker.TakenSpawns.{phase_of_entry}
use Rattle.world.specs.Controllers.{Controllers}
use Rattle.world.specs.Messages.{IsInOrder, entry_for}
use Rattle.plain_shop.specs.Shop as plain
use Rattle.plain_shop.specs.Acts as acts
use Rattle.plain_shop.specs.Steps as shop
use Rattle.world.specs.Showing.{entry_of_spawn, now_shown, part_of_spawn, phase_shown, row_at, seen_shown, shop_shown, spawn_shown, tag_of}
use Rattle.world.specs.State.{IsConsistent, State}
use Rattle.controller.specs.Step.{Step, message_step}
use Rattle.world.specs.Stepping.{master_moved}
use Rattle.world_items.specs.declared.word.Word.TheVariants.{NoMessage}

-- ---- what is taken back

-- a spawn that is out, whose entry has no part
record IsFreed (c : Controllers) (r : SpawnRec) : Type 0 where
  there : IsOutThere c r
  entry : Entry
  entered : entry_for c r ≡ Some entry
  part : entry.part ≡ None

-- the controllers once it is taken back
abbrev freed_in : Controllers → SpawnRec → ℕ → Controllers
freed_in c r at = with_master c (master_messages.state_after_withdrawal at c.master r)

-- the audit that tells of it
abbrev told_of : Controllers → SpawnRec → ℕ → Audit
told_of c r at = acts.withdrawn_audit (spawn_shown c r) at

-- ---- entries and spawns

-- each entry is found as before
entry_stays : (c : Controllers) (r : SpawnRec) (at t : ℕ) → entry_of_spawn (freed_in c r at) t ≡ entry_of_spawn c t
entry_stays c r at t =
    ap (option_and_then (entry_for (freed_in c r at))) (found_phase recorded.Withdrawn r.id c.master.records t) ∙ by (master.record_of c.master.records t)
  where
    either : (b : Bool) (q : SpawnRec) → entry_for (freed_in c r at) (cond b (master.withdrawn_record q) q) ≡ entry_for c q
    either true q = refl
    either false q = refl

    by : (o : Option SpawnRec) → option_and_then (entry_for (freed_in c r at)) (option_map (phase_if recorded.Withdrawn r.id) o) ≡ option_and_then (entry_for c) o
    by None = refl
    by (Some q) = either (master.is_of r.id q) q

-- the spawn is shown as withdrawn, and each other as before
spawn_freed : (c : Controllers) (r : SpawnRec) (at : ℕ) (b : Bool) (q : SpawnRec) → spawn_shown (freed_in c r at) (cond b (master.withdrawn_record q) q) ≡ cond b (record (spawn_shown c q) { phase = plain.Withdrawn }) (spawn_shown c q)
spawn_freed c r at true q = refl
spawn_freed c r at false q = refl

spawns_freed : (c : Controllers) (r : SpawnRec) (at : ℕ) (records : List SpawnRec) → map (spawn_shown (freed_in c r at)) (master.with_withdrawn r.id records) ≡ acts.in_phase plain.Withdrawn r.id (map (spawn_shown c) records)
spawns_freed c r at [] = refl
spawns_freed c r at (q ∷ records) =
    ap (λ a. a ∷ map (spawn_shown (freed_in c r at)) (master.with_withdrawn r.id records)) (spawn_freed c r at (master.is_of r.id q) q)
    ∙ ap (λ spawns. cond (q.id == r.id) (record (spawn_shown c q) { phase = plain.Withdrawn }) (spawn_shown c q) ∷ spawns) (spawns_freed c r at records)

-- ---- rows that are seen

seen_freed : (c : Controllers) (r : SpawnRec) (at : ℕ) (x : List ℕ) → IsFreed c r → seen_shown (freed_in c r at) x ≡ acts.with_parent_audit (places c.master.ticket.rows) r.node (told_of c r at) (seen_shown c) x
seen_freed c r at x h =
    let rows = c.master.ticket.rows in
    let told = told_of c r at in
    let above = parent_is c r h.there in
    append_of_rows (parent_of rows r.node) told rows h.there.kept.valid (ap (has_node rows) above ∙ above_stands c r h.there) x
    ∙ ap (λ u. with_row_changed u (with_told told) (row_in rows) x) above
    ∙ sym (told_there (places rows) r.node h.there.above told (row_in rows) x h.there.is_above)

tree_stays : (c : Controllers) (r : SpawnRec) (at : ℕ) → places (job_after_withdrawal c.master.ticket r at).rows ≡ places c.master.ticket.rows
tree_stays c r at = append_of_places _ _ c.master.ticket.rows

-- ---- holders

-- the master holds what the spawn held, and all else has the holder that it had
holder_freed : (c : Controllers) (r : SpawnRec) (at : ℕ) (x : List ℕ) → IsFreed c r → master.holder (freed_in c r at).master x ≡ acts.holders_after_return r.id (master.holder c.master) x
holder_freed c r at x h =
    let m = c.master in
    let t = m.ticket in
    let later = (job_after_withdrawal t r at).rows in
    let ended = master.withdrawn_record r in
    let place = placed (master.is_of r.id) m.records r h.there.recorded in
    let is = holds_claim c r x h.there in
    ap (λ recs. holder_of later recs x) (phase_at_place recorded.Withdrawn m.records place.place r h.there.kept.numbered place.there)
    ∙ split (holds_it c r x)
    (λ held.
    let q = claimed_place r (place_at (places t.rows) x) (sym is ∙ held) in
    ended_claim_is_masters t.rows later m.records place.place r ended (tree_stays c r at) h.there.kept.apart place.there h.there.out refl x q.0 q.1 q.2
    ∙ sym (when_true (holds_it c r x) (Some held_by.Master) (master.holder m x) held))
    (λ free.
    end_keeps_others t.rows later m.records place.place r ended (tree_stays c r at) place.there h.there.out refl x (sym is ∙ free)
    ∙ sym (when_false (holds_it c r x) (Some held_by.Master) (master.holder m x) free))

-- ---- rows now

-- what the spawn holds is now as it is seen
now_held : (c : Controllers) (r : SpawnRec) (x : List ℕ) → IsFreed c r → holds_it c r x ≡ true → seen_shown c x ≡ now_shown c x
now_held c r x h held =
    sym (ap (row_at c x) (held_spawn r.id (master.holder c.master x) held)
    ∙ ap (λ o. option_map_or (λ q. part_row q x) (option_and_then (λ (e : Entry). e.part) o) (seen_shown c x)) (ap (option_and_then (entry_for c)) h.there.recorded ∙ h.entered)
    ∙ ap (λ o. option_map_or (λ q. part_row q x) o (seen_shown c x)) h.part)

-- what it doesn't hold is now as it was, but for the audit
now_elsewhere : (c : Controllers) (r : SpawnRec) (at : ℕ) (x : List ℕ) (o : Option Holder) → IsFreed c r → master.holder c.master x ≡ o
    → row_at (freed_in c r at) x o ≡ acts.with_parent_audit (places c.master.ticket.rows) r.node (told_of c r at) (now_shown c) x
now_elsewhere c r at x None h is =
    seen_freed c r at x h ∙ told_as (places c.master.ticket.rows) r.node h.there.above (told_of c r at) (seen_shown c) (now_shown c) x h.there.is_above (sym (ap (row_at c x) is))
now_elsewhere c r at x (Some held_by.Master) h is =
    seen_freed c r at x h ∙ told_as (places c.master.ticket.rows) r.node h.there.above (told_of c r at) (seen_shown c) (now_shown c) x h.there.is_above (sym (ap (row_at c x) is))
now_elsewhere c r at x (Some (held_by.Spawn t)) h is =
    let tree = places c.master.ticket.rows in
    let told = told_of c r at in
    let other = parent_free c r x t h.there is in
    ap (λ o. option_map_or (λ q. part_row q x) (option_and_then (λ (e : Entry). e.part) o) (seen_shown (freed_in c r at) x)) (entry_stays c r at t)
    ∙ ap (option_map_or (λ q. part_row q x) (part_of_spawn c t)) (seen_freed c r at x h ∙ told_stays tree r.node h.there.above told (seen_shown c) x h.there.is_above other)
    ∙ sym (told_stays tree r.node h.there.above told (now_shown c) x h.there.is_above other ∙ ap (row_at c x) is)

now_freed : (c : Controllers) (r : SpawnRec) (at : ℕ) (x : List ℕ) → IsFreed c r → now_shown (freed_in c r at) x ≡ acts.with_parent_audit (places c.master.ticket.rows) r.node (told_of c r at) (now_shown c) x
now_freed c r at x h =
    let d = freed_in c r at in
    let o = master.holder c.master x in
    ap (row_at d x) (holder_freed c r at x h)
    ∙ split (holds_it c r x)
    (λ held.
    ap (row_at d x) (when_true (holds_it c r x) (Some held_by.Master) o held) ∙ seen_freed c r at x h
    ∙ told_as (places c.master.ticket.rows) r.node h.there.above (told_of c r at) (seen_shown c) (now_shown c) x h.there.is_above (now_held c r x h held))
    (λ free. ap (row_at d x) (when_false (holds_it c r x) (Some held_by.Master) o free) ∙ now_elsewhere c r at x o h refl)

-- ---- what the answer tells

-- it tells that the spawn is declined just if its entry was
stage_told : (stage : Stage) → worker.is_open_stage stage ≡ false → master_messages.is_declined command.Abort (worker.response_of_stage stage) ≡ worker.is_declined_stage stage
stage_told stages.Open shut = absurd (true≢false shut)
stage_told (stages.Done how) shut = refl
stage_told (stages.Closed how) shut = refl
stage_told stages.Declined shut = refl

-- ---- the step

-- the master's step on an answer that isn't refused, by whether it tells that the spawn is declined, and whether that is out
abbrev step_on : master.State → Message → ℕ → ℕ → SpawnRec → Bool → Bool → Step master.State Message
step_on m message s at r declined out = message_step m.name message at None m (cond declined (cond out (withdrawal_taking s at m r) (note_taking s m)) (note_taking s m))

-- the same, by why it is refused and by the record of the spawn
abbrev step_by : master.State → Message → ℕ → ℕ → Bool → Option Refusal → Option SpawnRec → Step master.State Message
step_by m message s at declined why o = message_step m.name message at why m (cond declined (while_out (withdrawal_taking s at m) (note_taking s m) o) (note_taking s m))

freed_by : (declined out : Bool) (c : Controllers) (message : Message) (s at : ℕ) (r : SpawnRec) → r.id ≡ s → (declined ≡ true → out ≡ true → IsFreed c r) → ((told : Result QueueStatus ℕ) → option_map tag_of (answer_to c.master.name message at told) ≡ None)
    → Agrees (master_moved c (step_on c.master message s at r declined out)) (cond (out && declined) (shop.quiet_step (reply.Freed r.id) (acts.after_withdrawal at (spawn_shown c r) (shop_shown c))) (shop.quiet_step (reply.Noted r.id) (shop_shown c)))
freed_by true true c message s at r number freed unanswered =
    let h = freed refl refl in
    record {
      reply = ap (λ n. Ok (reply.Freed n)) (sym number);
      next =
          same_shop _ _
          (record {
            master = refl;
            workers = refl;
            job = refl;
            tree = tree_stays c r at;
            seen = λ x. seen_freed c r at x h;
            now = λ x. now_freed c r at x h;
            holder = λ x. holder_freed c r at x h;
            spawns = spawns_freed c r at c.master.records;
          });
      sent = unanswered (Ok queue.Completed);
    }
freed_by true false c message s at r number freed unanswered = record { reply = ap (λ n. Ok (reply.Noted n)) (sym number); next = refl; sent = unanswered (Ok queue.Completed) }
freed_by false true c message s at r number freed unanswered = record { reply = ap (λ n. Ok (reply.Noted n)) (sym number); next = refl; sent = unanswered (Ok queue.Completed) }
freed_by false false c message s at r number freed unanswered = record { reply = ap (λ n. Ok (reply.Noted n)) (sym number); next = refl; sent = unanswered (Ok queue.Completed) }

-- an entry that was declined has no part
no_part : (e : Entry) → worker.IsKeptEntry e → worker.is_declined e ≡ true → e.part ≡ None
no_part e kept declined = gone e.part (kept.held ∙ empty e.phase declined)
  where
    empty : (stage : Stage) → worker.is_declined_stage stage ≡ true → worker.keeps_part stage ≡ false
    empty stages.Open is = absurd (true≢false (sym is))
    empty (stages.Done how) is = absurd (true≢false (sym is))
    empty (stages.Closed how) is = refl
    empty stages.Declined is = refl

    gone : {X : Type 0} (o : Option X) → is_some o ≡ false → o ≡ None
    gone None e = refl
    gone (Some x) e = absurd (true≢false e)

pub abort_is_answered : (w : State) (sender receiver : List ℕ) (sent s : ℕ) (told : Result QueueStatus ℕ) (at : ℕ) → IsConsistent w → IsInOrder w.controllers (answer sender receiver sent command.Abort s told)
    → StepsAgree (Ok (master_moved w.controllers (taken_by_master (answer sender receiver sent command.Abort s told) at w.controllers.master))) (shop.on_message at (shop_shown w.controllers) (shop.ToAbort s))
abort_is_answered w sender receiver sent s told at ok h =
    let c = w.controllers in
    let p = shop_shown c in
    let m = answer sender receiver sent command.Abort s told in
    let r = h.spawn in
    let a = spawn_shown c r in
    let number = number_is c.master.records s r h.recorded in
    let own : master.record_of c.master.records r.id ≡ Some r = ap (master.record_of c.master.records) number ∙ h.recorded in
    let says = and_found _ (entry_for c r) h.says in
    let e : Entry = says.0 in
    let declined = master_messages.is_declined command.Abort told in
    let is_declined : declined ≡ worker.is_declined e = ap (master_messages.is_declined command.Abort) says.2.1 ∙ stage_told e.phase says.2.0 in
    let shown : plain.is_declined a.phase ≡ (is_out r && declined) =
    ap (λ o. plain.is_declined (phase_shown r.phase o)) says.1 ∙ (phase_of_entry r.phase e).declined_so ∙ ap (λ b. is_out r && b) (sym is_declined) in
    let freed : declined ≡ true → is_out r ≡ true → IsFreed c r = λ is out. record {
      there = out_there c r ok.master own out;
      entry = e;
      entered = says.1;
      part = no_part e (entry_kept c r.worker r.id e ok.workers says.1) (sym is_declined ∙ is);
    } in
    let frees = shop.quiet_step (reply.Freed r.id) (acts.after_withdrawal at a p) in
    let notes = shop.quiet_step (reply.Noted r.id) p in
    subst (StepsAgree (Ok (master_moved c (taken_by_master m at c.master))))
    (sym (ap (λ o. option_map_or (λ b. Ok (shop.on_abort_answer at p b)) o (Err NoMessage)) (spawn_found c s ∙ ap (option_map (spawn_shown c)) h.recorded)))
    (subst (λ why. Agrees (master_moved c (step_by c.master m s at declined why (master.record_of c.master.records s))) (shop.on_abort_answer at p a)) (sym (master_refuses_nothing c m ok.recorded ok.back refl h))
    (subst (λ o. Agrees (master_moved c (step_by c.master m s at declined None o)) (shop.on_abort_answer at p a)) (sym h.recorded)
    (subst (λ b. Agrees (master_moved c (step_on c.master m s at r declined (is_out r))) (cond b frees notes)) (sym shown)
    (freed_by declined (is_out r) c m s at r number freed (λ said. refl)))))
