-- Events that come to no controller; and to which one a message comes.
use Rattle.std.proofs.Common.{◌≡◌, ◌∙◌, ℕ, true, false, List, Option, Some, None, Ok, Err, is_ok, is_some, refl, sym, ap}
use Rattle.std.proofs.lemmas.Bool.{true≢false}
use Rattle.std.proofs.lemmas.List.Elements.{All-contains}
use Rattle.std.specs.List.{position}
use Rattle.std.specs.Option.{option_map_or}
use Rattle.std.specs.Str.{bytes_eq}
use Rattle.ticket_items.proofs.Apart.{bytes_eq-same}
use Rattle.ticket_items.proofs.Places.{found_at_position}
use Rattle.controller.specs.declared.message.Message.{Message}
use Rattle.worker_core.specs.Messages.{is_for_worker}
use Rattle.worker_core.specs.Worker as worker
use Rattle.world.proofs.Shop.AlwaysKept.{message_there}
use Rattle.world.proofs.Runs.Cases.{split, when_false, when_true}
use Rattle.world.proofs.Messages.Receivers.{master_receives, worker_receives}
use Rattle.world.specs.Controllers.{Controllers}
use Rattle.worker_core.specs.Orders.{order_step as ordered_worker}
use Rattle.world_items.specs.declared.worker_order.Order.{Order}
use Rattle.stored_state.specs.Cause.{step_on}
use Rattle.stored_state.specs.declared.cause.StepInput.{StepInput}
use Rattle.stored_state.specs.declared.cause.StepInput.TheVariants as causes
use Rattle.world.specs.Happening.{delivery_step, is_reached, master_step, receiver_takes, worker_step}
use Rattle.world.specs.Messages.{IsInOrder}
use Rattle.world.specs.State.{IsConsistent, State, is_named, message_at}
use Rattle.plain_shop.specs.Step.{StepOrWord}
use Rattle.worker_core.specs.Messages.{take_step as taken_by_worker}
use Rattle.world.specs.Stepping.{worker_moved}
use Rattle.world_items.specs.declared.word.Word.{Word}
use Rattle.world_items.specs.declared.word.Word.TheVariants.{NoMessage}

-- a step comes to a controller
pub is_made : {P : Type 0} (step : StepOrWord Controllers Message) → is_ok step ≡ true → is_reached step ≡ false → P
is_made (Ok moved) there unmade = absurd (true≢false unmade)
is_made (Err word) there unmade = absurd (true≢false (sym there))

-- one of a worker that has no place comes to none
pub unplaced : (name : List ℕ) (word : Word) (cause : StepInput Order) (at : ℕ) (w : State) (place : Option ℕ) → position (is_named name) w.controllers.workers ≡ place → is_reached (worker_step name word cause at w) ≡ false → is_some place ≡ false
unplaced name word cause at w None is unmade = refl
unplaced name word cause at w (Some k) is unmade =
    let found = found_at_position (is_named name) w.controllers.workers k is in
    is_made (worker_step name word cause at w)
    (ap (λ (o : Option worker.State). is_ok (option_map_or (λ v. Ok (worker_moved w.controllers v (step_on ordered_worker taken_by_worker cause at v))) o (Err word))) found.1) unmade

-- a message that was sent has a receiver
pub is_received : (w : State) (k at : ℕ) (m : Message) → IsConsistent w → message_at w.messages k ≡ Some m → is_ok (delivery_step k at w) ≡ true
is_received w k at m ok found =
    let c = w.controllers in
    let h = All-contains (IsInOrder c) w.messages m ok.messages.each (message_there w.messages k m found) in
    let mine = bytes_eq m.receiver c.master.name in
    ap (λ o. is_ok (option_map_or (receiver_takes at w) o (Err NoMessage))) found
    ∙ split (is_for_worker m.body)
    (λ theirs.
    let by = worker_receives w m ok h theirs in
    ap is_ok (when_false mine (master_step (causes.Message m) at w) (worker_step m.receiver NoMessage (causes.Message m) at w) by.other)
    ∙ ap (λ (o : Option worker.State). is_ok (option_map_or (λ v. Ok (worker_moved c v (taken_by_worker m at v))) o (Err NoMessage))) by.found)
    (λ masters. ap is_ok (when_true mine (master_step (causes.Message m) at w) (worker_step m.receiver NoMessage (causes.Message m) at w) (master_receives w m h masters)))

-- so it comes to a controller
pub comes : {P : Type 0} (w : State) (k at : ℕ) (m : Message) → IsConsistent w → message_at w.messages k ≡ Some m → is_reached (delivery_step k at w) ≡ false → P
comes w k at m ok found unmade = is_made (delivery_step k at w) (is_received w k at m ok found) unmade

none_of : (w : State) (k at : ℕ) (o : Option Message) → message_at w.messages k ≡ o → IsConsistent w → is_reached (delivery_step k at w) ≡ false → message_at w.messages k ≡ None
none_of w k at None is ok unmade = is
none_of w k at (Some m) is ok unmade = comes w k at m ok is unmade

-- what comes to none is no message
pub no_message : (w : State) (k at : ℕ) → IsConsistent w → is_reached (delivery_step k at w) ≡ false → message_at w.messages k ≡ None
no_message w k at ok unmade = none_of w k at (message_at w.messages k) refl ok unmade

-- ---- the step that a message is

pub comes_to_master : (w : State) (k at : ℕ) (m : Message) → message_at w.messages k ≡ Some m → m.receiver ≡ w.controllers.master.name → delivery_step k at w ≡ master_step (causes.Message m) at w
comes_to_master w k at m found own =
    let mine = bytes_eq m.receiver w.controllers.master.name in
    ap (λ o. option_map_or (receiver_takes at w) o (Err NoMessage)) found
    ∙ when_true mine (master_step (causes.Message m) at w) (worker_step m.receiver NoMessage (causes.Message m) at w) (ap (bytes_eq m.receiver) (sym own) ∙ bytes_eq-same m.receiver)

pub comes_to_worker : (w : State) (k at : ℕ) (m : Message) → message_at w.messages k ≡ Some m → bytes_eq m.receiver w.controllers.master.name ≡ false → delivery_step k at w ≡ worker_step m.receiver NoMessage (causes.Message m) at w
comes_to_worker w k at m found other =
    let mine = bytes_eq m.receiver w.controllers.master.name in
    ap (λ o. option_map_or (receiver_takes at w) o (Err NoMessage)) found
    ∙ when_false mine (master_step (causes.Message m) at w) (worker_step m.receiver NoMessage (causes.Message m) at w) other
