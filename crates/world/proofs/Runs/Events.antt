-- Each event is its replay in the shop that is shown.
use Rattle.std.proofs.Common.{◌≡◌, ◌∙◌, ℕ, zero, suc, ◌||◌, Bool, true, false, cond, List, map, Option, Some, None, is_some, Ok, Err, refl, sym, ap, subst}
use Rattle.std.proofs.lemmas.List.Elements.{All-contains}
use Rattle.std.proofs.lemmas.Option.{slice_get-map}
use Rattle.std.specs.List.{Contains}
use Rattle.std.specs.Option.{option_map, option_map_or}
use Rattle.std.specs.Str.{bytes_eq}
use Rattle.ticket_items.specs.Ids.{mem}
use Rattle.ticket_items.specs.declared.refusal.Refusal.TheVariants.{UnknownWorker}
use Rattle.controller.specs.declared.body.Body.{Body}
use Rattle.controller.specs.declared.body.Body.TheVariants.{Abort, Answer, Return, Submit}
use Rattle.controller.specs.declared.command.Command.TheVariants as command
use Rattle.controller.specs.declared.message.Message.{Message}
use Rattle.world_items.specs.declared.master_order.Order as master_order
use Rattle.world_items.specs.declared.master_order.Order.TheVariants as to_master
use Rattle.worker_core.specs.Worker as worker
use Rattle.world_items.specs.declared.worker_order.Order as worker_order
use Rattle.world_items.specs.declared.worker_order.Order.TheVariants as to_worker
use Rattle.world.proofs.Shop.Agreeing.{Agrees, StepsAgree}
use Rattle.world.proofs.Shop.AlwaysKept.{kept_after, message_there}
use Rattle.world.proofs.Messages.AnswersCome.{return_is_answered, submit_is_answered}
use Rattle.world.proofs.Master.Edits.{master_edits}
use Rattle.world.proofs.Master.Spawns.{master_spawns}
use Rattle.world.proofs.Master.PartsPutIn.{part_is_put_in}
use Rattle.world.proofs.Worker.PartsTaken.{part_is_taken}
use Rattle.world.proofs.Messages.Receivers.{IsReceived, master_receives, worker_receives}
use Rattle.world.proofs.Master.Resends.{master_asks, master_resends}
use Rattle.world.proofs.Runs.Running.{event_agrees, runs_agree}
use Rattle.world.proofs.Worker.SameWorkers.{worker_known}
use Rattle.world.proofs.Master.SpawnsFreed.{abort_is_answered}
use Rattle.world.proofs.Worker.SpawnsGivenUp.{spawn_is_given_up}
use Rattle.world.proofs.Worker.TakenSpawns.{name_of}
use Rattle.world.proofs.Worker.Edits.{worker_edits}
use Rattle.world.proofs.Worker.Finishes.{worker_finishes}
use Rattle.world.proofs.Worker.Resends.{worker_resends}
use Rattle.world.specs.Controllers.{worker_of}
use Rattle.stored_state.specs.declared.cause.StepInput.TheVariants as causes
use Rattle.world.specs.Happening as world
use Rattle.world.specs.Laws.{EventsAreReplayed}
use Rattle.world.specs.Messages.{IsInOrder}
use Rattle.plain_shop.specs.Replay as replay
use Rattle.world.specs.Running.{IsShownBy}
use Rattle.plain_shop.specs.Shop.{PlainState}
use Rattle.plain_shop.specs.Steps as shop
use Rattle.world.specs.Showing.{shop_shown, shows, tag_in, tag_of}
use Rattle.world.specs.State.{IsConsistent, State, message_at}
use Rattle.plain_shop.specs.Step.{StepOrWord}
use Rattle.master_core.specs.Orders.{order_step as ordered_master}
use Rattle.worker_core.specs.Orders.{order_step as ordered_worker}
use Rattle.worker_core.specs.Messages.{take_step as taken_by_worker}
use Rattle.world.specs.Stepping.{master_moved, worker_moved}
use Rattle.world_items.specs.declared.event.Event.{Event}
use Rattle.world_items.specs.declared.what.What.{What}
use Rattle.world_items.specs.declared.what.What.TheVariants.{MasterOrder, WorkerOrder, Deliver, Restart}
use Rattle.world_items.specs.declared.word.Word.TheVariants.{NoMessage, Refused, Restarted}

-- ---- what the acts are owed

-- an order of the master
abbrev pub MasterAgrees : State → master_order.Order → ℕ → Type 0
MasterAgrees w o at = Agrees (master_moved w.controllers (ordered_master o at w.controllers.master)) (shop.master_does o at (shop_shown w.controllers))

-- an order of the worker of a name
abbrev pub WorkerAgrees : State → List ℕ → worker.State → worker_order.Order → ℕ → Type 0
WorkerAgrees w name v o at = Agrees (worker_moved w.controllers v (ordered_worker o at v)) (shop.worker_does name o at (shop_shown w.controllers))

-- ---- who receives a message

by_master : (w : State) (m : Message) (at : ℕ) (plain : StepOrWord PlainState shop.Tag) → bytes_eq m.receiver w.controllers.master.name ≡ true → StepsAgree (world.master_step (causes.Message m) at w) plain → StepsAgree (world.receiver_takes at w m) plain
by_master w m at plain mine agree = subst (λ b. StepsAgree (cond b (world.master_step (causes.Message m) at w) (world.worker_step m.receiver NoMessage (causes.Message m) at w)) plain) (sym mine) agree

by_worker : (w : State) (m : Message) (at : ℕ) (plain : StepOrWord PlainState shop.Tag) → (is : IsReceived w m) → StepsAgree (Ok (worker_moved w.controllers is.by (taken_by_worker m at is.by))) plain → StepsAgree (world.receiver_takes at w m) plain
by_worker w m at plain is agree =
    subst (λ b. StepsAgree (cond b (world.master_step (causes.Message m) at w) (world.worker_step m.receiver NoMessage (causes.Message m) at w)) plain) (sym is.other)
    (subst (λ o. StepsAgree (option_map_or (λ v. Ok (worker_moved w.controllers v (taken_by_worker m at v))) o (Err NoMessage)) plain) (sym is.found) agree)

-- the tag of a number is that of the message
tag_at : (messages : List Message) (k : ℕ) → message_at (map tag_of messages) k ≡ option_map tag_of (message_at messages k)
tag_at messages zero = refl
tag_at messages (suc k) = slice_get-map tag_of messages k

-- ---- each event

master_agrees : (o : master_order.Order) (w : State) (at : ℕ) → IsConsistent w → MasterAgrees w o at
master_agrees (to_master.Edit e) w at ok = master_edits w e at ok
master_agrees (to_master.Spawn n name copies) w at ok = master_spawns w n name copies at ok
master_agrees (to_master.Resend s) w at ok = master_resends w s at ok
master_agrees (to_master.Withdraw s) w at ok = master_asks w s at ok

by_name : (w : State) (name : List ℕ) (v : worker.State) (o : worker_order.Order) (at : ℕ) → worker_of w.controllers.workers name ≡ Some v → (worker_of w.controllers.workers v.name ≡ Some v → WorkerAgrees w v.name v o at) → WorkerAgrees w name v o at
by_name w name v o at found agrees =
    let is = name_of w.controllers name v found in
    subst (λ n. WorkerAgrees w n v o at) is (agrees (ap (worker_of w.controllers.workers) is ∙ found))

worker_agrees : (o : worker_order.Order) (w : State) (name : List ℕ) (v : worker.State) (at : ℕ) → IsConsistent w → worker_of w.controllers.workers name ≡ Some v → WorkerAgrees w name v o at
worker_agrees (to_worker.Edit s e) w name v at ok found = by_name w name v (to_worker.Edit s e) at found (worker_edits w v s e at ok)
worker_agrees (to_worker.Finish s how) w name v at ok found = by_name w name v (to_worker.Finish s how) at found (worker_finishes w v s how at ok)
worker_agrees (to_worker.Resend s) w name v at ok found = by_name w name v (to_worker.Resend s) at found (worker_resends w v s at ok)

found_agrees : (o : worker_order.Order) (w : State) (name : List ℕ) (at : ℕ) (found : Option worker.State) (known : Bool) → IsConsistent w → worker_of w.controllers.workers name ≡ found → is_some found ≡ known
    → StepsAgree (option_map_or (λ v. Ok (worker_moved w.controllers v (ordered_worker o at v))) found (Err (Refused UnknownWorker))) (cond known (Ok (shop.worker_does name o at (shop_shown w.controllers))) (Err (Refused UnknownWorker)))
found_agrees o w name at None true ok is there = cc
found_agrees o w name at None false ok is there = refl
found_agrees o w name at (Some v) true ok is there = worker_agrees o w name v at ok is
found_agrees o w name at (Some v) false ok is there = cc

message_agrees : (w : State) (sender receiver : List ℕ) (sent : ℕ) (body : Body) (at : ℕ) → IsConsistent w → Contains w.messages (record { sender = sender; receiver = receiver; at = sent; body = body }) → IsInOrder w.controllers (record { sender = sender; receiver = receiver; at = sent; body = body })
    → StepsAgree (world.receiver_takes at w (record { sender = sender; receiver = receiver; at = sent; body = body })) (shop.on_message at (shop_shown w.controllers) (tag_in body))
message_agrees w sender receiver sent (Submit p) at ok there h =
    let m : Message = record { sender = sender; receiver = receiver; at = sent; body = Submit p } in
    let is = worker_receives w m ok h refl in
    by_worker w m at _ is
    (subst (λ n. StepsAgree (Ok (worker_moved w.controllers is.by (taken_by_worker (record m { receiver = n }) at is.by))) (shop.on_message at (shop_shown w.controllers) (shop.Submit p.spawn_id))) is.named
    (part_is_taken w is.by sender sent p at ok (ap (worker_of w.controllers.workers) is.named ∙ is.found) (subst (λ n. Contains w.messages (record m { receiver = n })) (sym is.named) there)))
message_agrees w sender receiver sent (Return p) at ok there h =
    let m : Message = record { sender = sender; receiver = receiver; at = sent; body = Return p } in
    by_master w m at _ (master_receives w m h refl) (part_is_put_in w sender receiver sent p at ok there)
message_agrees w sender receiver sent (Abort s) at ok there h =
    let m : Message = record { sender = sender; receiver = receiver; at = sent; body = Abort s } in
    let is = worker_receives w m ok h refl in
    by_worker w m at _ is
    (subst (λ n. StepsAgree (Ok (worker_moved w.controllers is.by (taken_by_worker (record m { receiver = n }) at is.by))) (shop.on_message at (shop_shown w.controllers) (shop.Abort s))) is.named
    (spawn_is_given_up w is.by sender sent s at ok (ap (worker_of w.controllers.workers) is.named ∙ is.found) (subst (λ n. Contains w.messages (record m { receiver = n })) (sym is.named) there)))
message_agrees w sender receiver sent (Answer command.Submit s told) at ok there h =
    let m : Message = record { sender = sender; receiver = receiver; at = sent; body = Answer command.Submit s told } in
    by_master w m at _ (master_receives w m h refl) (submit_is_answered w sender receiver sent s told at ok h)
message_agrees w sender receiver sent (Answer command.Return s told) at ok there h =
    let m : Message = record { sender = sender; receiver = receiver; at = sent; body = Answer command.Return s told } in
    let is = worker_receives w m ok h refl in
    by_worker w m at _ is (return_is_answered w is.by sender receiver sent s told at ok is.found is.named is.knows h)
message_agrees w sender receiver sent (Answer command.Abort s told) at ok there h =
    let m : Message = record { sender = sender; receiver = receiver; at = sent; body = Answer command.Abort s told } in
    by_master w m at _ (master_receives w m h refl) (abort_is_answered w sender receiver sent s told at ok h)

delivery_agrees : (w : State) (k at : ℕ) (found : Option Message) → IsConsistent w → message_at w.messages k ≡ found
    → StepsAgree (option_map_or (world.receiver_takes at w) found (Err NoMessage)) (option_map_or (shop.on_message at (shop_shown w.controllers)) (option_map tag_of found) (Err NoMessage))
delivery_agrees w k at None ok is = refl
delivery_agrees w k at (Some m) ok is =
    let there = message_there w.messages k m is in
    message_agrees w m.sender m.receiver m.at m.body at ok there (All-contains (IsInOrder w.controllers) w.messages m ok.messages.each there)

-- whatever happens
steps_are_replayed : (w : State) (what : What) (at : ℕ) → IsConsistent w → StepsAgree (world.step_of what at w) (replay.step_of what at (shows w))
steps_are_replayed w (MasterOrder o) at ok = master_agrees o w at ok
steps_are_replayed w (WorkerOrder name o) at ok = found_agrees o w name at (worker_of w.controllers.workers name) (mem name w.controllers.master.workers) ok refl (worker_known w name ok)
steps_are_replayed w (Deliver k) at ok =
    subst (λ o. StepsAgree (world.delivery_step k at w) (option_map_or (shop.on_message at (shop_shown w.controllers)) o (Err NoMessage))) (sym (tag_at w.messages k)) (delivery_agrees w k at (message_at w.messages k) ok refl)
steps_are_replayed w (Restart name) at ok = ap (λ b. cond (bytes_eq name w.controllers.master.name || b) Restarted (Refused UnknownWorker)) (worker_known w name ok)

-- ---- as they run

is_shown : IsShownBy world.machine replay.machine IsConsistent shop_shown tag_of shows
is_shown =
    record {
      inner = λ w. refl;
      sent = λ w. refl;
      made = λ c messages. refl;
      kept = λ w e ok. kept_after e w ok;
      steps = steps_are_replayed;
    }

pub event_is_replayed : (w : State) (e : Event) → IsConsistent w → (world.answer_to e w ≡ replay.answer_to e (shows w)) × (shows (world.after e w) ≡ replay.after e (shows w))
event_is_replayed = event_agrees world.machine replay.machine IsConsistent shop_shown tag_of shows is_shown

pub events_are_replayed : EventsAreReplayed
events_are_replayed = runs_agree world.machine replay.machine IsConsistent shop_shown tag_of shows is_shown
