-- What always holds of a shop holds after each event, and so after all.
use Rattle.std.proofs.Common.{◌≡◌, inl, ℕ, Bool, true, false, cond, zero, suc, List, [], ◌∷◌, ◌++◌, Option, Some, None, IfSome, IsSomeAnd, Ok, Err, refl, sym, ap, ◌∙◌, subst}
use Rattle.std.proofs.lemmas.Bool.{eq-eqb, true≢false}
use Rattle.std.proofs.lemmas.List.Elements.{All-contains}
use Rattle.std.proofs.lemmas.Option.{get_or_from_slice_get, slice_get_within}
use Rattle.std.proofs.lemmas.Slice.Eq.{bytes_eq-Decides}
use Rattle.std.specs.List.{Contains}
use Rattle.std.specs.Option.{option_map, option_map_or}
use Rattle.std.specs.Str.{bytes_eq}
use Rattle.ticket_items.specs.declared.refusal.Refusal.{Refusal}
use Rattle.ticket_items.specs.declared.refusal.Refusal.TheVariants.{UnknownWorker}
use Rattle.ticket_rows.proofs.AtHome.{find-passes}
use Rattle.ticket_items.proofs.Apart.{bytes_eq-same}
use Rattle.controller.proofs.Answered.{answering_tells, free_answers, told_by}
use Rattle.controller.specs.Reply.{spawn_in}
use Rattle.controller.specs.declared.body.Body.{Body}
use Rattle.controller.specs.declared.body.Body.TheVariants.{Submit, Return, Abort, Answer}
use Rattle.controller.specs.declared.message.Message.{Message}
use Rattle.master_core.proofs.MessageKept.{message_is_kept}
use Rattle.master_core.proofs.OrderKept.{ordered_kept}
use Rattle.master_core.proofs.Recorded.{number_is}
use Rattle.master_core.specs.Master as master
use Rattle.master_core.specs.Messages as master_messages
use Rattle.master_core.specs.Orders as master_orders
use Rattle.world_items.specs.declared.master_order.Order as master_order
use Rattle.worker_core.proofs.AtNumber.{find-at_number, find-behind, found_holds}
use Rattle.worker_core.proofs.Closing.{aborted_is_shut, aborted_number}
use Rattle.worker_core.proofs.Kept as worker_kept
use Rattle.worker_core.proofs.MessageLaws.{told_found}
use Rattle.worker_core.specs.Messages as worker_messages
use Rattle.worker_core.specs.Orders as worker_orders
use Rattle.worker_core.specs.Worker as worker
use Rattle.worker_core.specs.declared.entry.Entry.{Entry}
use Rattle.world_items.specs.declared.worker_order.Order as worker_order
use Rattle.world.proofs.Worker.EndedEntries.{ordered_back, returned_back}
use Rattle.world.proofs.Messages.MessagesTaken.{master_refuses_nothing, returned_in, returned_told, worker_refuses_nothing}
use Rattle.world.proofs.Shop.Kept.{Keeps, master_stored, settled_kept, worker_stored}
use Rattle.world.proofs.Messages.StaysLater.{in_order_later}
use Rattle.world.proofs.Master.Steps as master_steps
use Rattle.stored_state.specs.Names.{ordered_names, taken_by_master_names, taken_by_worker_names, worker_ordered_names}
use Rattle.world.proofs.Worker.Stored.{entry_there, found_and}
use Rattle.world.proofs.Messages.Receivers.{worker_receives}
use Rattle.world.proofs.Messages.Sending.{IsNew, IsTaken, answer_is_new}
use Rattle.world.proofs.Worker.Steps as worker_steps
use Rattle.world.specs.Controllers.{entry_at, is_named, worker_of}
use Rattle.stored_state.specs.Cause.{step_on}
use Rattle.stored_state.specs.declared.cause.StepInput.{StepInput}
use Rattle.stored_state.specs.declared.cause.StepInput.TheVariants as causes
use Rattle.world.specs.Happening.{ComesTo, after, after_all, master_step, next_state, receiver_takes, step_of, worker_step}
use Rattle.world.specs.Messages.{AreRecorded, IsInOrder, TellsEntry, entry_for}
use Rattle.world.specs.State.{IsConsistent, State, message_at}
use Rattle.controller.specs.Step.{Step, Taking, unless_refused}
use Rattle.master_core.specs.Orders.{order_step as ordered_master}
use Rattle.worker_core.specs.Orders.{order_step as ordered_worker}
use Rattle.master_core.specs.Messages.{take_step as taken_by_master}
use Rattle.worker_core.specs.Messages.{take_step as taken_by_worker}
use Rattle.world.specs.Stepping.{master_moved, worker_moved}
use Rattle.world_items.specs.declared.event.Event.{Event}
use Rattle.world_items.specs.declared.stop.Stop.{Stop}
use Rattle.world_items.specs.declared.what.What.{What}
use Rattle.world_items.specs.declared.what.What.TheVariants.{MasterOrder, WorkerOrder, Deliver, Restart}
use Rattle.world_items.specs.declared.word.Word.{Word}
use Rattle.world_items.specs.declared.word.Word.TheVariants.{NoMessage, Refused}

-- ---- the master

keeps_unless_refused : (r : Option Refusal) (w : State) (v : Step master.State Message) → IsConsistent w → (r ≡ None → Keeps w (master_moved w.controllers v)) → Keeps w (master_moved w.controllers (unless_refused r w.controllers.master v))
keeps_unless_refused None w v ok go = go refl
keeps_unless_refused (Some e) w v ok go = record { stored = ok; sent = tt }

master_order_keeps : (o : master_order.Order) (at : ℕ) (w : State) → IsConsistent w → Keeps w (master_moved w.controllers (ordered_master o at w.controllers.master))
master_order_keeps o at w ok =
    let c = w.controllers in
    let next = (master_orders.allowed_step o at c.master).next in
    keeps_unless_refused (master_orders.order_refusal o c.master) w _ ok (λ none.
    let later = master_steps.ordered_later o at c ok.master none in
    let kept = ordered_kept o at c.master ok.master none in
    let stored = master_stored c next w.messages ok kept (ordered_names o at c.master) later (ordered_back o at c ok.back) in
    record { stored = stored; sent = master_steps.ordered_sends o at c w.messages ok.master none kept stored.messages.each })

-- a part that comes back to the master was put in then, and it isn't to give a spawn up
taken_back : (w : State) (m : Message) (at : ℕ) (body : Body) → m.body ≡ body → IsConsistent w → m.receiver ≡ w.controllers.master.name → (h : IsInOrder w.controllers m) (later : IsInOrder (master_steps.with_master w.controllers (master_messages.take_step m at w.controllers.master).next) m)
    → IsTaken (master_steps.with_master w.controllers (master_messages.take_step m at w.controllers.master).next) later.spawn (told_by (master_messages.take_refusal m w.controllers.master) (master_messages.on_body m.body at w.controllers.master).response) body
taken_back w m at (Submit p) says ok own h later = tt
taken_back w m at (Answer d s told) says ok own h later = tt
taken_back w m at (Abort s) says ok own h later =
    let by = worker_receives w m ok h (ap worker_messages.is_for_worker says) in
    absurd (true≢false (sym (ap (bytes_eq m.receiver) (sym own) ∙ bytes_eq-same m.receiver) ∙ by.other))
taken_back w m at (Return p) says ok own h later =
    let c = w.controllers in
    let none = master_refuses_nothing c m ok.recorded ok.back (ap worker_messages.is_for_worker says) h in (
      returned_told c m at p says none,
      returned_in m at c.master p h.spawn later.spawn says none (ap (λ b. master.record_of c.master.records (spawn_in b)) (sym says) ∙ h.recorded) (ap (λ b. master.record_of (master_messages.take_step m at c.master).next.records (spawn_in b)) (sym says) ∙ later.recorded),
    )

master_takes_keeps : (m : Message) (at : ℕ) (w : State) → IsConsistent w → Contains w.messages m → m.receiver ≡ w.controllers.master.name → Keeps w (master_moved w.controllers (taken_by_master m at w.controllers.master))
master_takes_keeps m at w ok there own =
    let c = w.controllers in
    let next = (master_messages.take_step m at c.master).next in
    let good : IsInOrder c m = All-contains (IsInOrder c) w.messages m ok.messages.each there in
    let later = master_steps.taken_later m at c ok.master good.for_master in
    let stored = master_stored c next w.messages ok (message_is_kept m at c.master good.for_master ok.master) (taken_by_master_names m at c.master) later (returned_back m at c ok.master.numbered good ok.back) in
    let d = master_steps.with_master c next in
    let good_later : IsInOrder d m = in_order_later c d later m good in
    let why = master_messages.take_refusal m c.master in
    let t = master_messages.on_body m.body at c.master in
    record {
      stored = stored;
      sent = subst (λ o. IfSome o (IsNew d w.messages)) (answering_tells c.master.name m at why c.master t)
          (answer_is_new d w.messages c.master.name m.sender m.receiver m.at at m.body (told_by why t.response) stored.messages.each own good_later (taken_back w m at m.body refl ok own good good_later));
    }

-- whatever it is told, and whatever comes to it
pub master_keeps : (cause : StepInput master_order.Order) (at : ℕ) (w : State) → IsConsistent w → ComesTo w.controllers.master.name w.messages cause → Keeps w (master_moved w.controllers (step_on ordered_master taken_by_master cause at w.controllers.master))
master_keeps (causes.Order o) at w ok comes = master_order_keeps o at w ok
master_keeps (causes.Message m) at w ok comes = master_takes_keeps m at w ok comes.0 comes.1

-- ---- a worker

-- what is known of a worker that is found
record IsThere (w : State) (v : worker.State) : Type 0 where
  pub knows : v.master ≡ w.controllers.master.name
  pub kept : worker.IsConsistent v
  pub recorded : AreRecorded w.controllers v

is_there : (w : State) (v : worker.State) → IsConsistent w → worker_of w.controllers.workers v.name ≡ Some v → IsThere w v
is_there w v ok found =
    let c = w.controllers in
    record {
      knows = found_holds (λ (u : worker.State). u.master ≡ c.master.name) (is_named v.name) c.workers v found ok.known;
      kept = found_holds worker.IsConsistent (is_named v.name) c.workers v found ok.workers;
      recorded = found_holds (AreRecorded c) (is_named v.name) c.workers v found ok.recorded;
    }

keeps_unless_worker_refused : (r : Option Refusal) (w : State) (v : worker.State) (moved : Step worker.State Message) → IsConsistent w → worker_of w.controllers.workers v.name ≡ Some v → (r ≡ None → Keeps w (worker_moved w.controllers v moved))
    → Keeps w (worker_moved w.controllers v (unless_refused r v moved))
keeps_unless_worker_refused None w v moved ok found go = go refl
keeps_unless_worker_refused (Some e) w v moved ok found go =
    let c = w.controllers in
    let is = is_there w v ok found in
    record { stored = worker_stored c v v w.messages ok is.knows is.kept (record { own = refl; masters = refl }) (worker_steps.worker_later c v v found refl (λ s x here ended. (x, here, inl refl))) is.recorded; sent = tt }

worker_order_keeps : (o : worker_order.Order) (at : ℕ) (w : State) (v : worker.State) → IsConsistent w → worker_of w.controllers.workers v.name ≡ Some v → Keeps w (worker_moved w.controllers v (ordered_worker o at v))
worker_order_keeps o at w v ok found =
    let c = w.controllers in
    let next = (worker_orders.allowed_step o at v).next in
    let names = worker_ordered_names o at v in
    let is = is_there w v ok found in
    keeps_unless_worker_refused (worker_orders.order_refusal o v.entries) w v _ ok found (λ none.
    let later = worker_steps.worker_later c v next found names.own (worker_steps.ordered_stays o at v is.kept none) in
    let kept = worker_kept.kept_ordered o at v is.kept none in
    let recorded = worker_steps.ordered_recorded o at c v is.kept none is.recorded in
    let stored = worker_stored c v next w.messages ok is.knows kept names later recorded in
    record { stored = stored; sent = worker_steps.ordered_sends o at c w.messages v found is.knows none kept recorded stored.messages.each })

-- what is to be given up has an entry then, which tells what is told
given_up : (found : Option Entry) (s at : ℕ) (v : worker.State) → worker.entry_of v.entries s ≡ found
    → let t = option_map_or (worker_messages.abort_taking s at v) found (worker_messages.decline_taking s at v) in
    IsSomeAnd (worker.entry_of t.next.entries s) (TellsEntry t.response)
given_up None s at v none =
    let next = v.entries ++ worker.declined_entry s at ∷ [] in
    let there : worker.entry_of next s ≡ Some (worker.declined_entry s at) = find-behind (worker.is_of s) v.entries (worker.declined_entry s at ∷ []) none ∙ ap (λ b. cond b (Some (worker.declined_entry s at)) None) (eq-eqb s s refl) in
    found_and (TellsEntry (worker.response_in next s)) (worker.entry_of next s) (worker.declined_entry s at) there (refl, told_found s next (worker.declined_entry s at) there)
given_up (Some x) s at v here =
    let next = worker.with_entry s (worker_messages.aborted_entry at) v.entries in
    let new = worker_messages.aborted_entry at x in
    let there : worker.entry_of next s ≡ Some new = find-at_number worker_kept.number_of s (worker_messages.aborted_entry at) v.entries (aborted_number at) ∙ ap (option_map (worker_messages.aborted_entry at)) here in
    found_and (TellsEntry (worker.response_in next s)) (worker.entry_of next s) new there (aborted_is_shut at x, told_found s next new there)

-- none comes back to a worker, and what is to be given up is answered as its entry is then
taken_so : (w : State) (v : worker.State) (m : Message) (at : ℕ) (body : Body) → m.body ≡ body → m.receiver ≡ v.name → IsConsistent w → worker_of w.controllers.workers v.name ≡ Some v → IsThere w v → (h : IsInOrder w.controllers m)
    (later : IsInOrder (worker_steps.with_next w.controllers v.name (worker_messages.take_step m at v).next) m) → IsTaken (worker_steps.with_next w.controllers v.name (worker_messages.take_step m at v).next) later.spawn (told_by (worker_messages.take_refusal m v) (worker_messages.on_body m.body at v).response) body
taken_so w v m at (Submit p) says own ok found is h later = tt
taken_so w v m at (Answer d s said) says own ok found is h later = tt
taken_so w v m at (Return p) says own ok found is h later =
    let mine : m.receiver ≡ w.controllers.master.name = h.to ∙ ap (λ b. cond (worker_messages.is_for_worker b) h.spawn.worker w.controllers.master.name) says in
    let one : v.name ≡ v.master = sym own ∙ mine ∙ sym is.knows in
    absurd (true≢false (sym (ap (bytes_eq v.name) (sym one) ∙ bytes_eq-same v.name) ∙ is.kept.apart))
taken_so w v m at (Abort s) says own ok found is h later =
    let c = w.controllers in
    let next = (worker_messages.take_step m at v).next in
    let d = worker_steps.with_next c v.name next in
    let theirs : worker_messages.is_for_worker m.body ≡ true = ap worker_messages.is_for_worker says in
    let none = worker_refuses_nothing c v m (ap (worker_of c.workers) own ∙ found) (sym own) is.knows theirs h in
    let r = later.spawn in
    let number : r.id ≡ s = number_is d.master.records (spawn_in m.body) r later.recorded ∙ ap spawn_in says in
    let named : r.worker ≡ v.name = sym (later.to ∙ ap (λ b. cond (worker_messages.is_for_worker b) r.worker d.master.name) says) ∙ own in
    let comes : worker_messages.on_body m.body at v ≡ worker_messages.on_abort s at v = ap (λ b. worker_messages.on_body b at v) says in
    let entries = (worker_messages.on_abort s at v).next.entries in
    let after : next ≡ (worker_messages.on_abort s at v).next =
    ap (λ (x : Step worker.State Message). x.next) (free_answers v.name m at (worker_messages.take_refusal m v) v (worker_messages.on_body m.body at v) (worker_messages.on_abort s at v) none comes) in
    let entered : entry_for d r ≡ worker.entry_of entries s =
    ap (λ n. entry_at d.workers n r.id) named ∙ entry_there v.name v next c.workers r.id found (taken_by_worker_names m at v).own
    ∙ ap (λ (u : worker.State). worker.entry_of u.entries r.id) after ∙ ap (worker.entry_of entries) number in
    let told : told_by (worker_messages.take_refusal m v) (worker_messages.on_body m.body at v).response ≡ (worker_messages.on_abort s at v).response =
    ap (λ o. told_by o (worker_messages.on_body m.body at v).response) none ∙ ap (λ (t : Taking worker.State). t.response) comes in
    subst (λ o. IsSomeAnd o (TellsEntry (told_by (worker_messages.take_refusal m v) (worker_messages.on_body m.body at v).response))) (sym entered)
    (subst (λ t. IsSomeAnd (worker.entry_of entries s) (TellsEntry t)) (sym told) (given_up (worker.entry_of v.entries s) s at v refl))

worker_takes_keeps : (m : Message) (at : ℕ) (w : State) (v : worker.State) → IsConsistent w → worker_of w.controllers.workers v.name ≡ Some v → Contains w.messages m → m.receiver ≡ v.name → Keeps w (worker_moved w.controllers v (taken_by_worker m at v))
worker_takes_keeps m at w v ok found there own =
    let c = w.controllers in
    let next = (worker_messages.take_step m at v).next in
    let is = is_there w v ok found in
    let good : IsInOrder c m = All-contains (IsInOrder c) w.messages m ok.messages.each there in
    let names = taken_by_worker_names m at v in
    let later = worker_steps.worker_later c v next found names.own (worker_steps.taken_stays m at v) in
    let recorded = worker_steps.taken_recorded c m at v own good is.recorded in
    let stored = worker_stored c v next w.messages ok is.knows (worker_kept.message_is_kept m at v good.for_worker is.kept) names later recorded in
    let d = worker_steps.with_next c v.name next in
    let good_later : IsInOrder d m = in_order_later c d later m good in
    let why = worker_messages.take_refusal m v in
    let t = worker_messages.on_body m.body at v in
    record {
      stored = stored;
      sent = subst (λ o. IfSome o (IsNew d w.messages)) (answering_tells v.name m at why v t)
          (answer_is_new d w.messages v.name m.sender m.receiver m.at at m.body (told_by why t.response) stored.messages.each own good_later (taken_so w v m at m.body refl own ok found is good good_later));
    }

-- whatever it is told, and whatever comes to it
pub worker_keeps : (cause : StepInput worker_order.Order) (at : ℕ) (w : State) (v : worker.State) → IsConsistent w → worker_of w.controllers.workers v.name ≡ Some v → ComesTo v.name w.messages cause → Keeps w (worker_moved w.controllers v (step_on ordered_worker taken_by_worker cause at v))
worker_keeps (causes.Order o) at w v ok found comes = worker_order_keeps o at w v ok found
worker_keeps (causes.Message m) at w v ok found comes = worker_takes_keeps m at w v ok found comes.0 comes.1

-- ---- one event

found_step : (w : State) (stop : Stop) (f : worker.State → Step worker.State Message) (word : Word) (name : List ℕ) (found : Option worker.State) → worker_of w.controllers.workers name ≡ found → IsConsistent w
    → ((v : worker.State) → v.name ≡ name → worker_of w.controllers.workers v.name ≡ Some v → Keeps w (worker_moved w.controllers v (f v))) → IsConsistent (next_state stop w (option_map_or (λ v. Ok (worker_moved w.controllers v (f v))) found (Err word)))
found_step w stop f word name None is ok keeps = ok
found_step w stop f word name (Some v) is ok keeps =
    let named : v.name ≡ name = (bytes_eq-Decides v.name name).0 (find-passes (is_named name) w.controllers.workers v is) in
    settled_kept stop w _ ok (keeps v named (ap (worker_of w.controllers.workers) named ∙ is))

-- the message of a number was sent
pub message_there : (messages : List Message) (k : ℕ) (m : Message) → message_at messages k ≡ Some m → Contains messages m
message_there messages zero m found = cc
message_there messages (suc k) m found = (k, slice_get_within messages k m found, get_or_from_slice_get messages k m m found)

receiver_kept : (mine : Bool) (m : Message) (at : ℕ) (stop : Stop) (w : State) → IsConsistent w → Contains w.messages m → bytes_eq m.receiver w.controllers.master.name ≡ mine → IsConsistent (next_state stop w (cond mine (master_step (causes.Message m) at w) (worker_step m.receiver NoMessage (causes.Message m) at w)))
receiver_kept true m at stop w ok there mine = settled_kept stop w _ ok (master_keeps (causes.Message m) at w ok (there, (bytes_eq-Decides m.receiver w.controllers.master.name).0 mine))
receiver_kept false m at stop w ok there other = found_step w stop (taken_by_worker m at) NoMessage m.receiver (worker_of w.controllers.workers m.receiver) refl ok (λ v named found. worker_keeps (causes.Message m) at w v ok found (there, sym named))

delivered_kept : (found : Option Message) (k at : ℕ) (stop : Stop) (w : State) → message_at w.messages k ≡ found → IsConsistent w → IsConsistent (next_state stop w (option_map_or (receiver_takes at w) found (Err NoMessage)))
delivered_kept None k at stop w is ok = ok
delivered_kept (Some m) k at stop w is ok = receiver_kept (bytes_eq m.receiver w.controllers.master.name) m at stop w ok (message_there w.messages k m is) refl

what_kept : (what : What) (at : ℕ) (stop : Stop) (w : State) → IsConsistent w → IsConsistent (next_state stop w (step_of what at w))
what_kept (MasterOrder o) at stop w ok = settled_kept stop w _ ok (master_keeps (causes.Order o) at w ok tt)
what_kept (WorkerOrder name o) at stop w ok = found_step w stop (ordered_worker o at) (Refused UnknownWorker) name (worker_of w.controllers.workers name) refl ok (λ v named found. worker_keeps (causes.Order o) at w v ok found tt)
what_kept (Deliver k) at stop w ok = delivered_kept (message_at w.messages k) k at stop w refl ok
what_kept (Restart name) at stop w ok = ok

pub kept_after : (e : Event) (w : State) → IsConsistent w → IsConsistent (after e w)
kept_after e w ok = what_kept e.what e.at e.stop w ok

-- ---- a list of events

pub kept_after_all : (events : List Event) (w : State) → IsConsistent w → IsConsistent (after_all events w)
kept_after_all [] w ok = ok
kept_after_all (e ∷ events) w ok = kept_after_all events (after e w) (kept_after e w ok)
