-- The part of each spawn is put in at most once, whatever happens.
use Rattle.std.proofs.Common.{◌≡◌, ◌∙◌, ℕ, zero, suc, Bool, true, false, cond, List, [], ◌∷◌, Option, Some, None, Ok, Err, inl, inr, refl, sym, ap, subst, slice_get}
use Rattle.std.proofs.lemmas.Bool.{true≢false}
use Rattle.std.proofs.lemmas.List.Elements.{All-contains}
use Rattle.std.proofs.lemmas.Option.{same_Some}
use Rattle.std.specs.Option.{option_map_or}
use Rattle.std.specs.Str.{bytes_eq}
use Rattle.ticket_items.specs.declared.refusal.Refusal.{Refusal}
use Rattle.ticket_items.specs.declared.refusal.Refusal.TheVariants.{UnknownWorker}
use Rattle.ticket_tree.specs.Part.{PartCopy}
use Rattle.controller.specs.declared.body.Body.{Body}
use Rattle.controller.specs.declared.body.Body.TheVariants.{Submit, Return, Abort, Answer as Answered}
use Rattle.controller.specs.declared.message.Message.{Message}
use Rattle.world_items.specs.declared.reply.Reply.TheVariants as reply
use Rattle.spawn.specs.Records.{is_out}
use Rattle.spawn.specs.declared.records.spawn_rec.SpawnRec.{SpawnRec}
use Rattle.master_core.proofs.MessageLaws.{in_stays_in, merged_is_in}
use Rattle.master_core.proofs.PartsKept.{message_keeps_spawns}
use Rattle.master_core.proofs.Refusals.{done_order}
use Rattle.master_core.specs.Master.{State as MasterState, is_spawn_out, merged_record, record_of, withdrawn_record}
use Rattle.master_core.specs.Messages as master_messages
use Rattle.master_core.specs.Orders as master_orders
use Rattle.world_items.specs.declared.master_order.Order as master_order
use Rattle.world_items.specs.declared.master_order.Order.TheVariants as master_orders_are
use Rattle.worker_core.specs.Messages as worker_messages
use Rattle.worker_core.specs.Orders as worker_orders
use Rattle.worker_core.specs.Worker as worker
use Rattle.worker_core.specs.declared.entry.Entry.{Entry}
use Rattle.world_items.specs.declared.worker_order.Order as worker_order
use Rattle.world_items.specs.declared.worker_order.Order.TheVariants as worker_orders_are
use Rattle.world.proofs.Shop.AlwaysKept.{kept_after, message_there}
use Rattle.world.proofs.Worker.Stored.{and_found, found_and}
use Rattle.world.specs.Controllers.{Controllers, worker_of}
use Rattle.stored_state.specs.declared.cause.StepInput.TheVariants as causes
use Rattle.world.specs.Happening.{after, after_all, answer_to, answers_to, master_step, next_answer, next_state, receiver_takes, step_of, worker_step}
use Rattle.world.specs.Laws.{EachIsMergedOnce}
use Rattle.world.specs.Messages.{IsInOrder}
use Rattle.world.specs.Once.{AreMergedOnce, TellsMerge}
use Rattle.world.specs.State.{IsConsistent, State, message_at}
use Rattle.controller.specs.Step.{Step, Taking, message_step, unless_refused}
use Rattle.world_items.specs.Word.{word_of}
use Rattle.master_core.specs.Orders.{order_step as ordered_master}
use Rattle.worker_core.specs.Orders.{order_step as ordered_worker}
use Rattle.master_core.specs.Messages.{take_step as taken_by_master}
use Rattle.worker_core.specs.Messages.{take_step as taken_by_worker}
use Rattle.world.specs.Stepping.{master_moved, worker_moved}
use Rattle.world_items.specs.declared.answer.Answer.{Answer}
use Rattle.world_items.specs.declared.event.Event.{Event}
use Rattle.world_items.specs.declared.stop.Stop.{Stop}
use Rattle.world_items.specs.declared.stop.Stop.TheVariants.{Run, BeforeSave, BeforeSend}
use Rattle.world_items.specs.declared.what.What.{What}
use Rattle.world_items.specs.declared.what.What.TheVariants.{MasterOrder, WorkerOrder, Deliver, Restart}
use Rattle.world_items.specs.declared.word.Word.{Word}
use Rattle.world_items.specs.declared.word.Word.TheVariants.{Did, NoMessage, Refused}

-- ---- what is in stays in

-- the record of a spawn
abbrev Has : Controllers → ℕ → SpawnRec → Type 0
Has c s r = record_of c.master.records s ≡ Some r

settled_has : (stop : Stop) (w : State) (moved : Step Controllers Message) (s : ℕ) (r : SpawnRec) → Has w.controllers s r → Has moved.next s r → Has (next_state stop w (Ok moved)).controllers s r
settled_has Run w moved s r has next = next
settled_has BeforeSave w moved s r has next = has
settled_has BeforeSend w moved s r has next = next

ordered_has : (o : master_order.Order) (at : ℕ) (m : MasterState) (s : ℕ) (r : SpawnRec) → record_of m.records s ≡ Some r → is_out r ≡ false → record_of (ordered_master o at m).next.records s ≡ Some r
ordered_has o at m s r has isn't = by (master_orders.order_refusal o m) refl
  where
    by : (e : Option Refusal) → master_orders.order_refusal o m ≡ e
        → record_of (unless_refused e m (master_orders.allowed_step o at m)).next.records s ≡ Some r
    by None free = ap (λ (step : Step MasterState Message). record_of step.next.records s) (sym (done_order o at m free)) ∙ (in_stays_in m s r has isn't).0 o at
    by (Some e) is = has

found_has : (found : Option worker.State) (f : worker.State → Step worker.State Message) (word : Word) (stop : Stop) (w : State) (s : ℕ) (r : SpawnRec) → Has w.controllers s r
    → Has (next_state stop w (option_map_or (λ v. Ok (worker_moved w.controllers v (f v))) found (Err word))).controllers s r
found_has None f word stop w s r has = has
found_has (Some v) f word stop w s r has = settled_has stop w (worker_moved w.controllers v (f v)) s r has has

receiver_has : (mine : Bool) (m : Message) (at : ℕ) (stop : Stop) (w : State) (s : ℕ) (r : SpawnRec) → Has w.controllers s r → is_out r ≡ false → Has (next_state stop w (cond mine (master_step (causes.Message m) at w) (worker_step m.receiver NoMessage (causes.Message m) at w))).controllers s r
receiver_has true m at stop w s r has isn't = settled_has stop w (master_moved w.controllers (taken_by_master m at w.controllers.master)) s r has ((in_stays_in w.controllers.master s r has isn't).1 m at)
receiver_has false m at stop w s r has isn't = found_has (worker_of w.controllers.workers m.receiver) (taken_by_worker m at) NoMessage stop w s r has

delivered_has : (found : Option Message) (at : ℕ) (stop : Stop) (w : State) (s : ℕ) (r : SpawnRec) → Has w.controllers s r → is_out r ≡ false → Has (next_state stop w (option_map_or (receiver_takes at w) found (Err NoMessage))).controllers s r
delivered_has None at stop w s r has isn't = has
delivered_has (Some m) at stop w s r has isn't = receiver_has (bytes_eq m.receiver w.controllers.master.name) m at stop w s r has isn't

what_has : (what : What) (at : ℕ) (stop : Stop) (w : State) (s : ℕ) (r : SpawnRec) → Has w.controllers s r → is_out r ≡ false → Has (next_state stop w (step_of what at w)).controllers s r
what_has (MasterOrder o) at stop w s r has isn't = settled_has stop w (master_moved w.controllers (ordered_master o at w.controllers.master)) s r has (ordered_has o at w.controllers.master s r has isn't)
what_has (WorkerOrder name o) at stop w s r has isn't = found_has (worker_of w.controllers.workers name) (ordered_worker o at) (Refused UnknownWorker) stop w s r has
what_has (Deliver k) at stop w s r has isn't = delivered_has (message_at w.messages k) at stop w s r has isn't
what_has (Restart name) at stop w s r has isn't = has

after_has : (e : Event) (w : State) (s : ℕ) (r : SpawnRec) → Has w.controllers s r → is_out r ≡ false → Has (after e w).controllers s r
after_has e w s r has isn't = what_has e.what e.at e.stop w s r has isn't

-- ---- what tells of a merge

-- the spawn was out, and is in then
record Merges (w next : State) (s : ℕ) : Type 0 where
  was_out : is_spawn_out w.controllers.master.records s ≡ true
  now : SpawnRec
  has : Has next.controllers s now
  isn't : is_out now ≡ false

no_master_order : (refusal : Option Refusal) (o : master_order.Order) (at : ℕ) (m : MasterState) (s : ℕ) → word_of (unless_refused refusal m (master_orders.allowed_step o at m)).reply ≡ Did (reply.Merged s) → ⊥
no_master_order (Some e) o at m s is = cc
no_master_order None (master_orders_are.Edit e) at m s is = cc
no_master_order None (master_orders_are.Spawn node name rw) at m s is = cc
no_master_order None (master_orders_are.Resend t) at m s is = cc
no_master_order None (master_orders_are.Withdraw t) at m s is = cc

no_worker_order : (refusal : Option Refusal) (o : worker_order.Order) (at : ℕ) (v : worker.State) (s : ℕ) → word_of (unless_refused refusal v (worker_orders.allowed_step o at v)).reply ≡ Did (reply.Merged s) → ⊥
no_worker_order (Some e) o at v s is = cc
no_worker_order None (worker_orders_are.Edit t e) at v s is = cc
no_worker_order None (worker_orders_are.Finish t how) at v s is = cc
no_worker_order None (worker_orders_are.Resend t) at v s is = cc

again_reply : (declined : Bool) (t s : ℕ) → cond declined (reply.Declined t) (reply.Again t) ≡ reply.Merged s → ⊥
again_reply true t s is = cc
again_reply false t s is = cc

submit_reply : (found : Option Entry) (p : PartCopy) (at : ℕ) (v : worker.State) (s : ℕ) → (option_map_or (worker_messages.repeat_taking p.spawn_id v) found (worker_messages.entry_taking p at v)).reply ≡ reply.Merged s → ⊥
submit_reply None p at v s is = cc
submit_reply (Some e) p at v s is = again_reply (worker.is_declined e) p.spawn_id s is

ended_reply : (opened : Bool) (e : Entry) (t s : ℕ) → cond opened (reply.Ended t) (worker_messages.again_reply t e) ≡ reply.Merged s → ⊥
ended_reply true e t s is = cc
ended_reply false e t s is = again_reply (worker.is_declined e) t s is

abort_reply : (found : Option Entry) (t at : ℕ) (v : worker.State) (s : ℕ) → (option_map_or (worker_messages.abort_taking t at v) found (worker_messages.decline_taking t at v)).reply ≡ reply.Merged s → ⊥
abort_reply None t at v s is = cc
abort_reply (Some e) t at v s is = ended_reply (worker.is_open e) e t s is

no_take_reply : (body : Body) (at : ℕ) (v : worker.State) (s : ℕ) → (worker_messages.on_body body at v).reply ≡ reply.Merged s → ⊥
no_take_reply (Submit p) at v s is = submit_reply (worker.entry_of v.entries p.spawn_id) p at v s is
no_take_reply (Return p) at v s is = cc
no_take_reply (Abort t) at v s is = abort_reply (worker.entry_of v.entries t) t at v s is
no_take_reply (Answered c t (Ok status)) at v s is = cc
no_take_reply (Answered c t (Err reason)) at v s is = cc

-- a reply that is told in a word
told_reply : {S : Type 0} (why : Option Refusal) (name : List ℕ) (m : Message) (at : ℕ) (v : S) (t : Taking S) (s : ℕ) → word_of (message_step name m at why v t).reply ≡ Did (reply.Merged s) → ((message_step name m at why v t).reply ≡ Ok (reply.Merged s)) × (t.reply ≡ reply.Merged s)
told_reply None name m at v t s is = let same : t.reply ≡ reply.Merged s = cc in (ap Ok same, same)
told_reply (Some e) name m at v t s is = cc

no_worker_take : (m : Message) (at : ℕ) (v : worker.State) (s : ℕ) → word_of (worker_messages.take_step m at v).reply ≡ Did (reply.Merged s) → ⊥
no_worker_take m at v s is = no_take_reply m.body at v s (told_reply (worker_messages.take_refusal m v) v.name m at v (worker_messages.on_body m.body at v) s is).1

-- the word of a step is told only where its state is stored
settled_tells : (stop : Stop) (w : State) (moved : Step Controllers Message) (s : ℕ) → TellsMerge s (next_answer stop w (Ok moved)) → (word_of moved.reply ≡ Did (reply.Merged s)) × ((next_state stop w (Ok moved)).controllers ≡ moved.next)
settled_tells Run w moved s tells = (tells, refl)
settled_tells BeforeSave w moved s tells = cc
settled_tells BeforeSend w moved s tells = (tells, refl)

no_step : (stop : Stop) (w : State) (moved : Step Controllers Message) (s : ℕ) → (word_of moved.reply ≡ Did (reply.Merged s) → ⊥) → TellsMerge s (next_answer stop w (Ok moved)) → ⊥
no_step stop w moved s unsaid tells = unsaid (settled_tells stop w moved s tells).0

no_found : (found : Option worker.State) (f : worker.State → Step worker.State Message) (word : Word) (stop : Stop) (w : State) (s : ℕ) → ((v : worker.State) → word_of (f v).reply ≡ Did (reply.Merged s) → ⊥) → (word ≡ Did (reply.Merged s) → ⊥)
    → TellsMerge s (next_answer stop w (option_map_or (λ v. Ok (worker_moved w.controllers v (f v))) found (Err word))) → ⊥
no_found None f word stop w s unsaid other tells = other tells
no_found (Some v) f word stop w s unsaid other tells = no_step stop w (worker_moved w.controllers v (f v)) s (unsaid v) tells

-- a master that took a part back
taken_merges : (m : Message) (at : ℕ) (w next : State) (s : ℕ) (before : Option SpawnRec) → IsConsistent w → IsInOrder w.controllers m → record_of w.controllers.master.records s ≡ before → (master_messages.take_step m at w.controllers.master).reply ≡ Ok (reply.Merged s)
    → next.controllers ≡ (master_moved w.controllers (taken_by_master m at w.controllers.master)).next → Merges w next s
taken_merges m at w next s None ok good has told is =
    let laws = merged_is_in m at w.controllers.master s told in
    absurd (true≢false (sym laws.0 ∙ ap (λ o. option_map_or is_out o false) has))
taken_merges m at w next s (Some r) ok good has told is =
    let laws = merged_is_in m at w.controllers.master s told in
    let here : (q : SpawnRec) → record_of (master_messages.take_step m at w.controllers.master).next.records s ≡ Some q → Merges w next s = λ q there. record {
      was_out = laws.0;
      now = q;
      has = ap (λ (c : Controllers). record_of c.master.records s) is ∙ there;
      isn't = ap (λ o. option_map_or is_out o false) (sym there) ∙ laws.1;
    } in
    elim (message_keeps_spawns m at w.controllers.master s r good.for_master ok.master has) [
      | inl merges ↦ here (merged_record r) merges.2
      | inr others ↦ elim others [
        | inl frees ↦ here (withdrawn_record r) frees.2
        | inr stays ↦ here r stays.0
      ]
    ]

receiver_merges : (mine : Bool) (m : Message) (at : ℕ) (stop : Stop) (w : State) (s : ℕ) → IsConsistent w → IsInOrder w.controllers m → TellsMerge s (next_answer stop w (cond mine (master_step (causes.Message m) at w) (worker_step m.receiver NoMessage (causes.Message m) at w)))
    → Merges w (next_state stop w (cond mine (master_step (causes.Message m) at w) (worker_step m.receiver NoMessage (causes.Message m) at w))) s
receiver_merges true m at stop w s ok good tells =
    let step = settled_tells stop w (master_moved w.controllers (taken_by_master m at w.controllers.master)) s tells in
    let x = w.controllers.master in
    let told = (told_reply (master_messages.take_refusal m x) x.name m at x (master_messages.on_body m.body at x) s step.0).0 in
    taken_merges m at w (next_state stop w (master_step (causes.Message m) at w)) s (record_of w.controllers.master.records s) ok good refl told step.1
receiver_merges false m at stop w s ok good tells =
    absurd (no_found (worker_of w.controllers.workers m.receiver) (taken_by_worker m at) NoMessage stop w s (λ v. no_worker_take m at v s) (λ e. cc) tells)

delivered_merges : (found : Option Message) (k at : ℕ) (stop : Stop) (w : State) (s : ℕ) → message_at w.messages k ≡ found → IsConsistent w → TellsMerge s (next_answer stop w (option_map_or (receiver_takes at w) found (Err NoMessage)))
    → Merges w (next_state stop w (option_map_or (receiver_takes at w) found (Err NoMessage))) s
delivered_merges None k at stop w s is ok tells = cc
delivered_merges (Some m) k at stop w s is ok tells =
    receiver_merges (bytes_eq m.receiver w.controllers.master.name) m at stop w s ok (All-contains (IsInOrder w.controllers) w.messages m ok.messages.each (message_there w.messages k m is)) tells

restart_tells : (there : Bool) (s : ℕ) → cond there Word.Restarted (Refused UnknownWorker) ≡ Did (reply.Merged s) → ⊥
restart_tells true s is = cc
restart_tells false s is = cc

what_merges : (what : What) (at : ℕ) (stop : Stop) (w : State) (s : ℕ) → IsConsistent w → TellsMerge s (next_answer stop w (step_of what at w)) → Merges w (next_state stop w (step_of what at w)) s
what_merges (MasterOrder o) at stop w s ok tells =
    absurd (no_step stop w (master_moved w.controllers (ordered_master o at w.controllers.master)) s (no_master_order (master_orders.order_refusal o w.controllers.master) o at w.controllers.master s) tells)
what_merges (WorkerOrder name o) at stop w s ok tells =
    absurd (no_found (worker_of w.controllers.workers name) (ordered_worker o at) (Refused UnknownWorker) stop w s (λ v. no_worker_order (worker_orders.order_refusal o v.entries) o at v s) (λ e. cc) tells)
what_merges (Deliver k) at stop w s ok tells = delivered_merges (message_at w.messages k) k at stop w s refl ok tells
what_merges (Restart name) at stop w s ok tells = absurd (restart_tells _ s tells)

after_merges : (e : Event) (w : State) (s : ℕ) → IsConsistent w → TellsMerge s (answer_to e w) → Merges w (after e w) s
after_merges e w s ok tells = what_merges e.what e.at e.stop w s ok tells

-- ---- a list of events

never : (events : List Event) (w : State) (s i : ℕ) (a : Answer) (r : SpawnRec) → IsConsistent w → Has w.controllers s r → is_out r ≡ false → slice_get (answers_to events w) i ≡ Some a → TellsMerge s a → ⊥
never [] w s i a r ok has isn't there tells = cc
never (e ∷ events) w s zero a r ok has isn't there tells =
    let merges = after_merges e w s ok (ap (λ (b : Answer). b.word) (same_Some (answer_to e w) a there) ∙ tells) in
    true≢false (sym merges.was_out ∙ ap (λ o. option_map_or is_out o false) has ∙ isn't)
never (e ∷ events) w s (suc i) a r ok has isn't there tells = never events (after e w) s i a r (kept_after e w ok) (after_has e w s r has isn't) isn't there tells

never_after : (e : Event) (events : List Event) (w : State) (s j : ℕ) (a b : Answer) → IsConsistent w → Some (answer_to e w) ≡ Some a → slice_get (answers_to events (after e w)) j ≡ Some b → TellsMerge s a → TellsMerge s b → ⊥
never_after e events w s j a b ok here there first second =
    let merges = after_merges e w s ok (ap (λ (c : Answer). c.word) (same_Some (answer_to e w) a here) ∙ first) in
    never events (after e w) s j b merges.now (kept_after e w ok) merges.has merges.isn't there second

pub merged_once : (events : List Event) (w : State) → IsConsistent w → AreMergedOnce (answers_to events w)
merged_once [] w ok s i j a b here there first second = cc
merged_once (e ∷ events) w ok s zero zero a b here there first second = refl
merged_once (e ∷ events) w ok s zero (suc j) a b here there first second = absurd (never_after e events w s j a b ok here there first second)
merged_once (e ∷ events) w ok s (suc i) zero a b here there first second = absurd (never_after e events w s i b a ok there here second first)
merged_once (e ∷ events) w ok s (suc i) (suc j) a b here there first second = ap suc (merged_once events (after e w) (kept_after e w ok) s i j a b here there first second)

all_has : (events : List Event) (w : State) (s : ℕ) (r : SpawnRec) → Has w.controllers s r → is_out r ≡ false → Has (after_all events w).controllers s r
all_has [] w s r has isn't = has
all_has (e ∷ events) w s r has isn't = all_has events (after e w) s r (after_has e w s r has isn't) isn't

pub each_is_merged_once : EachIsMergedOnce
each_is_merged_once w events ok = (
  merged_once events w ok,
  λ s i a is_in there tells. let found = and_found _ (record_of w.controllers.master.records s) is_in in never events w s i a found.0 ok found.1 found.2 there tells,
  λ s is_in. let found = and_found _ (record_of w.controllers.master.records s) is_in in found_and _ (record_of (after_all events w).controllers.master.records s) found.0 (all_has events w s found.0 found.1 found.2) found.2,
)

-- the answers of a run
pub run_merges_once : (events : List Event) (w : State) (answers : List Answer) → IsConsistent w → answers ≡ answers_to events w → AreMergedOnce answers
run_merges_once events w answers ok is = subst AreMergedOnce (sym is) (merged_once events w ok)
