-- The steps of a controller of any kind.
use Rattle.std.specs.Prelude.{ℕ, List}
use Rattle.serde_json.specs.Written.{compact_text}
use Rattle.ticket_items.specs.declared.refusal.Refusal.{Refusal}
use Rattle.json_profile.specs.ReadAs.{IsRefusalOf}
use Rattle.master_core.specs.Messages as master_messages
use Rattle.master_core.specs.Orders as master_orders
use Rattle.worker_core.specs.Messages as worker_messages
use Rattle.worker_core.specs.Orders as worker_orders
use Rattle.controller.specs.Step.{with_state}
use Rattle.controller.specs.declared.message.Message.{Message}
use Rattle.controller_form.specs.Orders.MasterForm.{master_order_read}
use Rattle.controller_form.specs.Orders.WorkerForm.{worker_order_read}
use Rattle.controller_form.specs.States.MasterForm.{master_state_data}
use Rattle.controller_form.specs.States.WorkerForm.{worker_state_data}
use Rattle.stored_state.specs.Opened.{AnyController, of_master, of_worker}
use Rattle.stored_state.specs.Step.{IsOfOrder, IsTaken, TextStep, in_text}

-- the text of a controller's state
abbrev pub text_of : AnyController → List ℕ
text_of (of_master m) = compact_text (master_state_data m)
text_of (of_worker w) = compact_text (worker_state_data w)

-- ---- the step that bytes are for a controller

-- the step of a controller by the order that the bytes are, at a time
abbrev pub IsOrdered : ℕ → List ℕ → AnyController → TextStep AnyController → Type 0
IsOrdered at bytes (of_master m) step =
    IsOfOrder master_order_read bytes
    (λ o. with_state of_master (in_text (master_orders.order_step o at m))) step
IsOrdered at bytes (of_worker w) step =
    IsOfOrder worker_order_read bytes
    (λ o. with_state of_worker (in_text (worker_orders.order_step o at w))) step

-- why the bytes are no order of a controller, or memory ran out
abbrev pub IsNoOrder : List ℕ → AnyController → Refusal → Type 0
IsNoOrder bytes (of_master m) e = IsRefusalOf master_order_read bytes e
IsNoOrder bytes (of_worker w) e = IsRefusalOf worker_order_read bytes e

-- the step of a controller by a message, at a time
abbrev pub take_step_of : ℕ → Message → AnyController → TextStep AnyController
take_step_of at x (of_master m) = with_state of_master (in_text (master_messages.take_step x at m))
take_step_of at x (of_worker w) = with_state of_worker (in_text (worker_messages.take_step x at w))

-- the step of a controller by the message that the bytes are, at a time
abbrev pub IsHanded : ℕ → List ℕ → AnyController → TextStep AnyController → Type 0
IsHanded at bytes c step = IsTaken bytes (λ x. take_step_of at x c) step
