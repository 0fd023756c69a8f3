-- What happens at an event: which step is made, and what is left of it.
use Rattle.std.specs.Prelude.{◌≡◌, ◌⊎◌, ℕ, Bool, true, false, List, if◌then◌else◌, Ok, Err, ⊤}
use Rattle.std.specs.List.{Contains}
use Rattle.std.specs.Option.{option_map_or}
use Rattle.std.specs.Str.{bytes_eq}
use Rattle.ticket_items.specs.declared.refusal.Refusal.TheVariants.{UnknownWorker}
use Rattle.controller.specs.declared.message.Message.{Message}
use Rattle.world_items.specs.declared.master_order.Order as master
use Rattle.world_items.specs.declared.worker_order.Order as worker
use Rattle.stored_state.specs.Cause.{step_on}
use Rattle.stored_state.specs.declared.cause.StepInput.{StepInput}
use Rattle.stored_state.specs.declared.cause.StepInput.TheVariants as causes
use Rattle.world.specs.Running as running
use Rattle.world.specs.Running.{Machine}
use Rattle.world.specs.State.{Controllers, State, is_controller, message_at, worker_of}
use Rattle.plain_shop.specs.Step.{StepOrWord}
use Rattle.master_core.specs.Orders.{order_step as ordered_master}
use Rattle.worker_core.specs.Orders.{order_step as ordered_worker}
use Rattle.world.specs.Stepping.{master_moved}
use Rattle.master_core.specs.Messages.{take_step as taken_by_master}
use Rattle.worker_core.specs.Messages.{take_step as taken_by_worker}
use Rattle.world.specs.Stepping.{worker_moved}
use Rattle.world_items.specs.declared.answer.Answer.{Answer}
use Rattle.world_items.specs.declared.event.Event.{Event}
use Rattle.world_items.specs.declared.stop.Stop.{Stop}
use Rattle.world_items.specs.declared.stop.Stop.TheVariants.{BeforeSave, BeforeSend}
use Rattle.world_items.specs.declared.what.What.{What}
use Rattle.world_items.specs.declared.what.What.TheVariants.{MasterOrder, WorkerOrder}
use Rattle.world_items.specs.declared.what.What.TheVariants.{Deliver, Restart}
use Rattle.world_items.specs.declared.word.Word.{Word}
use Rattle.world_items.specs.declared.word.Word.TheVariants.{NoMessage, Refused, Restarted}

-- ---- one step

-- the master's, of an order or of a message
abbrev pub master_step : StepInput master.Order → ℕ → State → StepOrWord Controllers Message
master_step cause at w =
    Ok (master_moved w.controllers
    (step_on ordered_master taken_by_master cause at w.controllers.master))

-- the one of the worker of a name, if there is one, or else this word
abbrev pub worker_step : List ℕ → Word → StepInput worker.Order → ℕ → State
    → StepOrWord Controllers Message
worker_step name none cause at w =
    option_map_or (λ v. Ok (worker_moved w.controllers v
    (step_on ordered_worker taken_by_worker cause at v)))
    (worker_of w.controllers.workers name) (Err none)

-- a message that comes to the controller of a name was sent to it. It may be told anything
abbrev pub ComesTo : {O : Type 0} → List ℕ → List Message → StepInput O → Type 0
ComesTo name messages (causes.Order o) = ⊤
ComesTo name messages (causes.Message m) = Contains messages m × (m.receiver ≡ name)

-- the one of the receiver of a message
abbrev pub receiver_takes : ℕ → State → Message → StepOrWord Controllers Message
receiver_takes at w m =
    if bytes_eq m.receiver w.controllers.master.name
    then master_step (causes.Message m) at w
    else worker_step m.receiver NoMessage (causes.Message m) at w

-- the one of the receiver of the message of a number, if there is one
abbrev pub delivery_step : ℕ → ℕ → State → StepOrWord Controllers Message
delivery_step k at w =
    option_map_or (receiver_takes at w) (message_at w.messages k) (Err NoMessage)

-- a restart is none: between events each controller is as it is stored
abbrev pub restart_word : List ℕ → State → Word
restart_word name w =
    if is_controller w.controllers name then Restarted else Refused UnknownWorker

-- that of what happens
abbrev pub step_of : What → ℕ → State → StepOrWord Controllers Message
step_of (MasterOrder o) at w = master_step (causes.Order o) at w
step_of (WorkerOrder name o) at w = worker_step name (Refused UnknownWorker) (causes.Order o) at w
step_of (Deliver k) at w = delivery_step k at w
step_of (Restart name) at w = Err (restart_word name w)

-- whether a controller is reached: one has the name, or a message the number
abbrev pub is_reached : StepOrWord Controllers Message → Bool
is_reached (Ok step) = true
is_reached (Err Restarted) = true
is_reached (Err word) = false

abbrev pub reaches : Event → State → Bool
reaches e w = is_reached (step_of e.what e.at w)

-- ---- as they run

-- the controllers with their messages, as a machine
abbrev pub machine : Machine State Controllers Message
machine =
    record {
      inner = λ w. w.controllers;
      sent = λ w. w.messages;
      made = λ c messages. record { controllers = c; messages = messages };
      step_of = step_of;
    }

-- what is answered to a step, and what is there then
abbrev pub next_answer : Stop → State → StepOrWord Controllers Message → Answer
next_answer = running.next_answer machine

abbrev pub next_state : Stop → State → StepOrWord Controllers Message → State
next_state = running.next_state machine

-- it isn't known how far a step came: its controller stopped before its state was stored, or before
-- its message was sent
abbrev pub IsUnknown : State → StepOrWord Controllers Message → State → Type 0
IsUnknown old step new =
    (new ≡ next_state BeforeSave old step) ⊎ (new ≡ next_state BeforeSend old step)

-- the same of an event
abbrev pub answer_to : Event → State → Answer
answer_to = running.answer_to machine

abbrev pub after : Event → State → State
after = running.after machine

-- and of events in turn
abbrev pub answers_to : List Event → State → List Answer
answers_to = running.answers_to machine

abbrev pub after_all : List Event → State → State
after_all = running.after_all machine
