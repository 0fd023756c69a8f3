-- A step, by what causes it.
use Rattle.std.specs.Prelude.{ℕ, Bool, false, if◌then◌else◌, Option, Some, None}
use Rattle.std.specs.Option.{option_map_or}
use Rattle.controller.specs.Step.{Step}
use Rattle.controller.specs.declared.body.Body.{Body}
use Rattle.controller.specs.declared.message.Message as messages
use Rattle.stored_state.specs.declared.cause.StepInput.{StepInput}
use Rattle.stored_state.specs.declared.cause.StepInput.TheVariants.{Message, Order}

-- the step that a controller makes at a time of what it is told, or of the message that comes to it
abbrev pub step_on : {O S : Type 0} → (O → ℕ → S → Step S messages.Message)
    → (messages.Message → ℕ → S → Step S messages.Message) → StepInput O → ℕ → S
    → Step S messages.Message
step_on order take (Order o) at s = order o at s
step_on order take (Message m) at s = take m at s

-- whether what causes a step is known to leave a controller as it is, by what that would take a
-- message as. An order is looked at no further
abbrev pub stays_at : {O S : Type 0} → (Body → S → Bool) → StepInput O → S → Bool
stays_at stays (Order o) s = false
stays_at stays (Message m) s = stays m.body s

-- what causes the step once more at another value of the controller: nothing where it stays
abbrev pub once_more : {O S : Type 0} → (Body → S → Bool) → StepInput O → S → Option (StepInput O)
once_more stays cause s = if stays_at stays cause s then None else Some cause

-- the controller that the step leads to of what causes one, if anything does
abbrev pub led_to : {O S : Type 0} → (O → ℕ → S → Step S messages.Message)
    → (messages.Message → ℕ → S → Step S messages.Message) → Option (StepInput O) → ℕ → S → S
led_to order take again at s = option_map_or (λ cause. (step_on order take cause at s).next) again s
