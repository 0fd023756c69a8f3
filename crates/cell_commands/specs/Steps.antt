-- A step of the controller whose text a cell holds.
use Rattle.std.specs.Prelude.{◌≡◌, ◌⊎◌, ℕ, List, Option, Result, Ok, Err, option_map}
use Rattle.json_profile.specs.ReadAs.{IsReadAs, IsRefusalOf}
use Rattle.jmf_message.specs.Decoded.{IsRefusalOf as IsUndecoded}
use Rattle.ticket_items.specs.declared.refusal.Refusal.{Refusal}
use Rattle.ticket_items.specs.declared.refusal.Refusal.TheVariants.{Memory}
use Rattle.world_items.specs.declared.reply.Reply.{Reply}
use Rattle.stored_state.specs.AnyStep.{IsHanded, IsNoOrder, IsOrdered, text_of}
use Rattle.stored_state.specs.Opened.{any_state_read, controller_in}
use Rattle.stored_state.specs.declared.any_controller.AnyController.{AnyController}
use Rattle.stored_state.specs.Step.{TextStep}
use Rattle.stored_state.specs.declared.any_kept.AnyKept.{AnyKept}
use Rattle.stored_state.specs.declared.order_bytes.OrderBytes.{OrderBytes}
use Rattle.stored_state.specs.declared.taken_bytes.TakenBytes.{TakenBytes}
use Rattle.streams.specs.declared.refused.Refused.TheVariants.{Core}
use Rattle.streams.specs.declared.fault.Fault.{Fault}
use Rattle.streams.specs.declared.fault.Fault.TheVariants.{Device, Input}
use Rattle.file_commands.specs.Commands.{Steps}

-- why bytes may be no step of a controller
abbrev pub Refuses : Type 1
Refuses = List ℕ → AnyController → Refusal → Type 0

-- the bytes are the step of the controller whose text was held, and the text is that of the state
-- that it leads to; this is what it replies, and the text that goes out
pub record MakesStep (IsStep : Steps) (bytes held text : List ℕ) (reply : Result Reply Refusal)
    (sent : Option (List ℕ)) (after : AnyController) : Type 0 where
  pub before : AnyController
  pub read : IsReadAs any_state_read held (Ok before)
  pub step : TextStep AnyController
  pub is_step : IsStep bytes before step
  pub replied : reply ≡ step.reply
  pub sends : sent ≡ step.sent
  pub leads : after ≡ step.next
  pub is_text : text ≡ text_of after

-- why there is none: what is held is no controller's state; or the bytes are no step of the
-- controller, or memory ran out
abbrev pub IsNoStep : Refuses → List ℕ → List ℕ → Fault → Type 0
IsNoStep IsRefused bytes held (Device (Core e)) = IsRefusalOf any_state_read held e
IsNoStep IsRefused bytes held (Input (Core e)) =
    (e ≡ Memory)
    ⊎ ((before : AnyController) × IsReadAs any_state_read held (Ok before)
    × IsRefused bytes before e)
IsNoStep IsRefused bytes held fault = ⊥

-- the step that an order makes of what is held, or why it makes none, which leaves that as it is
abbrev pub MakesOrder : {K : Type 0} → ℕ → List ℕ → List ℕ → List ℕ
    → Result (OrderBytes × AnyKept K) Fault → Type 0
MakesOrder at bytes held text (Ok given) =
    MakesStep (IsOrdered at) bytes held text given.0.reply
    (option_map (λ b. b.items) given.0.message) (controller_in given.1)
MakesOrder at bytes held text (Err fault) = (text ≡ held) × IsNoStep IsNoOrder bytes held fault

-- the same of a message
abbrev pub MakesTaking : {K : Type 0} → ℕ → List ℕ → List ℕ → List ℕ
    → Result (TakenBytes × AnyKept K) Fault → Type 0
MakesTaking at bytes held text (Ok given) =
    MakesStep (IsHanded at) bytes held text given.0.reply
    (option_map (λ b. b.items) given.0.answer) (controller_in given.1)
MakesTaking at bytes held text (Err fault) =
    (text ≡ held) × IsNoStep (λ bytes _. IsUndecoded bytes) bytes held fault
