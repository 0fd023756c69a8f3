-- An answer that comes to the controller that gave the command: the master notes it, and the worker gives up the part.
use Rattle.std.proofs.Common.{◌≡◌, ◌∙◌, ℕ, Bool, true, false, cond, not, List, map, Option, Some, None, Result, Ok, Err, is_ok, refl, sym, ap, subst}
use Rattle.std.proofs.lemmas.Bool.{true≢false}
use Rattle.std.specs.Option.{option_map, option_map_or}
use Rattle.ticket_items.proofs.Places.{same_found}
use Rattle.ticket_items.specs.declared.refusal.Refusal.{Refusal}
use Rattle.controller.specs.Reply.{answer_to}
use Rattle.controller.specs.declared.body.Body.TheVariants.{Answer}
use Rattle.controller.specs.declared.command.Command.{Command}
use Rattle.controller.specs.declared.command.Command.TheVariants as command
use Rattle.controller.specs.declared.message.Message.{Message}
use Rattle.controller.specs.declared.queue_status.QueueStatus.{QueueStatus}
use Rattle.world_items.specs.declared.reply.Reply.TheVariants as reply
use Rattle.spawn.specs.Records.{is_out}
use Rattle.spawn.specs.declared.records.phase.Phase.TheVariants as recorded
use Rattle.master_core.specs.Master as master
use Rattle.master_core.specs.Messages as master_messages
use Rattle.worker_core.proofs.Closing.{closed_number, ended_shut}
use Rattle.worker_core.specs.Messages as worker_messages
use Rattle.worker_core.specs.Worker as worker
use Rattle.worker_core.specs.declared.entry.Entry.{Entry}
use Rattle.worker_core.specs.declared.stage.Stage.{Stage}
use Rattle.worker_core.specs.declared.stage.Stage.TheVariants as worker_stage
use Rattle.world.proofs.Shop.Agreeing.{Agrees, StepsAgree}
use Rattle.world.proofs.Runs.Cases.{split, when_true}
use Rattle.world.proofs.Messages.MessagesTaken.{answered_entry, master_refuses_nothing, worker_refuses_nothing}
use Rattle.world.proofs.Worker.EntryStored.{row_stored, spawns_stay, spawns_stored}
use Rattle.world.proofs.Worker.PartsTaken.{held_claimed}
use Rattle.world.proofs.Master.Resends.{spawn_found}
use Rattle.world.proofs.Shop.Paths.{same_shop}
use Rattle.world.proofs.Worker.TakenSpawns.{HasRecord, entry_record, merged_of}
use Rattle.world.proofs.Worker.Edits.{changed_stored}
use Rattle.world.specs.Controllers.{worker_of}
use Rattle.world.specs.Messages.{IsInOrder, entry_for}
use Rattle.plain_shop.specs.Shop as plain
use Rattle.plain_shop.specs.Acts as acts
use Rattle.plain_shop.specs.Steps as shop
use Rattle.plain_shop.specs.Steps.{quiet_step}
use Rattle.world.specs.Showing.{phase_shown, shop_shown, spawn_shown, tag_of}
use Rattle.world.specs.State.{IsConsistent, State}
use Rattle.controller.specs.Step.{Step, message_step}
use Rattle.world_items.specs.declared.word.Word.TheVariants.{NoMessage}
use Rattle.master_core.specs.Messages.{take_step as taken_by_master}
use Rattle.worker_core.specs.Messages.{take_step as taken_by_worker}
use Rattle.world.specs.Stepping.{master_moved, worker_moved}

-- the answer that tells of a command
abbrev pub answer : List ℕ → List ℕ → ℕ → Command → ℕ → Result QueueStatus ℕ → Message
answer sender receiver sent given s told = record { sender = sender; receiver = receiver; at = sent; body = Answer given s told }

-- the master notes that of a part that went out
pub submit_is_answered : (w : State) (sender receiver : List ℕ) (sent s : ℕ) (told : Result QueueStatus ℕ) (at : ℕ) → IsConsistent w → IsInOrder w.controllers (answer sender receiver sent command.Submit s told)
    → Agrees (master_moved w.controllers (taken_by_master (answer sender receiver sent command.Submit s told) at w.controllers.master)) (quiet_step (reply.Noted s) (shop_shown w.controllers))
submit_is_answered w sender receiver sent s told at ok good =
    let c = w.controllers in
    let m = answer sender receiver sent command.Submit s told in
    let none = master_refuses_nothing c m ok.recorded ok.back refl good in
    subst (λ why. Agrees (master_moved c (message_step c.master.name m at why c.master (master_messages.note_taking s c.master))) (quiet_step (reply.Noted s) (shop_shown c))) (sym none)
    (record { reply = refl; next = refl; sent = refl })

-- what tells of success tells a Status
acknowledged : (told : Result QueueStatus ℕ) → is_ok told ≡ true → (status : QueueStatus) × (told ≡ Ok status)
acknowledged (Ok status) e = (status, refl)
acknowledged (Err reason) e = cc

-- ---- an answer to the worker

-- the worker's step, by why the answer is refused and by what it tells
abbrev step_by : worker.State → Message → ℕ → ℕ → Option Refusal → Result QueueStatus ℕ → Step worker.State Message
step_by v m s at why told = message_step v.name m at why v (worker_messages.on_answer s told v)

-- an entry on which the work has ended is closed then
closed_by : (stage : Stage) (e : Entry) → e.phase ≡ stage → worker.is_ended_stage stage ≡ true → worker.is_closed (worker.closed_entry_in stage e) ≡ true
closed_by worker_stage.Open e is ended = absurd (true≢false (sym ended))
closed_by (worker_stage.Done how) e is ended = refl
closed_by (worker_stage.Closed how) e is ended = ap worker.is_closed_stage is
closed_by worker_stage.Declined e is ended = absurd (true≢false (sym ended))

merged_so : (b : Bool) → plain.is_merged (cond b plain.Closed plain.Merged) ≡ not b
merged_so true = refl
merged_so false = refl

-- an answer of success closes the entry of a spawn that isn't out, and the shop is the same but for its phase
closes : (w : State) (v : worker.State) (m : Message) (s at : ℕ) (e : Entry) (status : QueueStatus) → IsConsistent w → worker_of w.controllers.workers v.name ≡ Some v → worker.entry_of v.entries s ≡ Some e → worker.is_ended e ≡ true → (h : HasRecord w.controllers v.name s e) → is_out h.spawn ≡ false → ((told : Result QueueStatus ℕ) → option_map tag_of (answer_to v.name m at told) ≡ None)
    → Agrees (worker_moved w.controllers v (step_by v m s at None (Ok status))) (shop.on_return_answer (shop_shown w.controllers) (spawn_shown w.controllers h.spawn))
closes w v m s at e status ok found here ended h back unanswered =
    let c = w.controllers in
    let p = shop_shown c in
    let r = h.spawn in
    let next : worker.State = record v { entries = worker.with_entry s worker.closed_entry v.entries } in
    let new = worker.closed_entry e in
    let stored = changed_stored w v s e worker.closed_entry closed_number ok found here h in
    let merged : r.phase ≡ recorded.Merged = merged_of r.phase e back (h.back back) (ended_shut e ended).1 in
    let was : phase_shown r.phase (entry_for c r) ≡ phase_shown recorded.Merged (Some e) = ap (λ phase. phase_shown phase (entry_for c r)) merged ∙ ap (phase_shown recorded.Merged) h.entered in
    let is : phase_shown r.phase (Some new) ≡ plain.Closed = ap (λ phase. phase_shown phase (Some new)) merged ∙ when_true (worker.is_closed new) plain.Closed plain.Merged (closed_by e.phase e refl ended) in
    let now = λ (x : List ℕ).
    let o = master.holder c.master x in
    row_stored c v.name s next new r stored (λ row. row) x o (λ held. absurd (true≢false (sym (held_claimed c.master s r x ok.master h.recorded held).3 ∙ back))) (λ other. refl) in
    let said : reply.Acked s ≡ reply.Acked r.id = ap (λ n. reply.Acked n) (sym h.number) in
    let told = (worker_messages.on_answer s (Ok status) v).response in
    subst (λ b. Agrees (worker_moved c v (step_by v m s at None (Ok status))) (shop.quiet_step (reply.Acked r.id) (cond b (acts.after_close r.id p) p)))
    (sym (ap plain.is_merged was ∙ merged_so (worker.is_closed e)))
    (split (worker.is_closed e)
    (λ closed. subst (λ b. Agrees (worker_moved c v (step_by v m s at None (Ok status))) (shop.quiet_step (reply.Acked r.id) (cond (not b) (acts.after_close r.id p) p))) (sym closed)
    (record {
      reply = ap Ok said;
      sent = unanswered told;
      next = same_shop _ _
          (record {
            master = refl;
            workers = refl;
            job = refl;
            tree = refl;
            seen = λ x. refl;
            now = now;
            holder = λ x. refl;
            spawns = spawns_stay c v.name s next new r stored (is ∙ sym (was ∙ when_true (worker.is_closed e) plain.Closed plain.Merged closed));
          });
    }))
    (λ open'. subst (λ b. Agrees (worker_moved c v (step_by v m s at None (Ok status))) (shop.quiet_step (reply.Acked r.id) (cond (not b) (acts.after_close r.id p) p))) (sym open')
    (record {
      reply = ap Ok said;
      sent = unanswered told;
      next = same_shop _ _
          (record {
            master = refl;
            workers = refl;
            job = refl;
            tree = refl;
            seen = λ x. refl;
            now = now;
            holder = λ x. refl;
            spawns = spawns_stored c v.name s next new r plain.Closed stored is ∙ ap (λ n. acts.in_phase plain.Closed n (map (spawn_shown c) c.master.records)) (sym h.number);
          });
    })))

-- the worker acknowledges that of a part that came back: none was refused
pub return_is_answered : (w : State) (v : worker.State) (sender receiver : List ℕ) (sent s : ℕ) (told : Result QueueStatus ℕ) (at : ℕ) → IsConsistent w → worker_of w.controllers.workers receiver ≡ Some v → v.name ≡ receiver → v.master ≡ w.controllers.master.name
    → IsInOrder w.controllers (answer sender receiver sent command.Return s told)
    → StepsAgree (Ok (worker_moved w.controllers v (taken_by_worker (answer sender receiver sent command.Return s told) at v))) (shop.on_message at (shop_shown w.controllers) (shop.ToReturn s))
return_is_answered w v sender receiver sent s told at ok found named knows good =
    let c = w.controllers in
    let p = shop_shown c in
    let m = answer sender receiver sent command.Return s told in
    let none = worker_refuses_nothing c v m found named knows refl good in
    let own : worker_of c.workers v.name ≡ Some v = ap (worker_of c.workers) named ∙ found in
    let there = answered_entry c v sender receiver sent s told found good in
    let e : Entry = there.0 in
    let h = entry_record w v.name s v e ok own there.1 in
    let a = spawn_shown c h.spawn in
    let says = acknowledged told good.says.0 in
    let back : is_out h.spawn ≡ false = ap is_out (same_found h.spawn good.spawn (master.record_of c.master.records s) h.recorded good.recorded) ∙ good.says.1 in
    subst (StepsAgree (Ok (worker_moved c v (taken_by_worker m at v))))
    (sym (ap (λ o. option_map_or (λ b. Ok (shop.on_return_answer p b)) o (Err NoMessage)) (spawn_found c s ∙ ap (option_map (spawn_shown c)) h.recorded)))
    (subst (λ why. Agrees (worker_moved c v (step_by v m s at why told)) (shop.on_return_answer p a)) (sym none)
    (subst (λ t. Agrees (worker_moved c v (step_by v m s at None t)) (shop.on_return_answer p a)) (sym says.1) (closes w v m s at e says.0 ok own there.1 there.2 h back (λ t. refl))))
