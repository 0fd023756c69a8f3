-- Steps of a controller in text: with the text of what is sent, by the bytes of what comes, and as
-- they are saved.
use Rattle.std.specs.Prelude.{◌≡◌, ℕ, Bool, false, true, List, Option, Result, Ok}
use Rattle.serde_json.specs.Data.{Data}
use Rattle.ticket_items.specs.declared.refusal.Refusal.{Refusal}
pub use Rattle.controller.specs.Step.{Step}
use Rattle.controller.specs.Step.{with_message}
use Rattle.controller.specs.declared.message.Message.{Message}
use Rattle.world_items.specs.declared.reply.Reply.{Reply}
use Rattle.json_profile.specs.ReadAs.{IsReadAs}
use Rattle.stored_state.specs.Held.{KeptState}
use Rattle.stored_state.specs.Message.{IsOfMessage, message_text}

-- a step that sends a text
abbrev pub TextStep : Type 0 → Type 0
TextStep C = Step C (List ℕ)

-- the step, with the text of its message
abbrev pub in_text : {C : Type 0} → Step C Message → TextStep C
in_text step = with_message message_text step

-- the step is that of the order that the bytes are
pub record IsOfOrder {C O : Type 0} (reads : Data → Result O Refusal) (bytes : List ℕ)
    (does : O → TextStep C) (step : TextStep C) : Type 0 where
  pub order : O
  pub read : IsReadAs reads bytes (Ok order)
  pub is : step ≡ does order

-- the step is that of the message that the bytes are
abbrev pub IsTaken : {C : Type 0} → List ℕ → (Message → TextStep C) → TextStep C → Type 0
IsTaken bytes does step = IsOfMessage bytes (λ m. step ≡ does m)

-- ---- steps that are saved

-- the step was done, and an honest keeper holds the text of the state that it leaves
pub record IsSaved {C K : Type 0} (is_honest : K → Bool) (held : K → List ℕ)
    (state_text : C → List ℕ) (step : TextStep C) (new : KeptState C K) : Type 0 where
  pub after : new.controller ≡ step.next
  pub fresh : new.stale ≡ false
  pub holds : is_honest new.keep ≡ true → held new.keep ≡ state_text step.next

-- such a step was done, and is saved
pub record SavesStep {C K : Type 0} (is_honest : K → Bool) (held : K → List ℕ)
    (state_text : C → List ℕ) (IsStep : TextStep C → Type 0) (new : KeptState C K) : Type 0 where
  pub step : TextStep C
  pub is_step : IsStep step
  pub saved : IsSaved is_honest held state_text step new

-- the same, of which this is given out: what is replied, and the text that goes out
abbrev pub GivesStep : {C K : Type 0} → (K → Bool) → (K → List ℕ) → (C → List ℕ)
    → (TextStep C → Type 0) → KeptState C K → Result Reply Refusal → Option (List ℕ) → Type 0
GivesStep is_honest held state_text IsStep new reply sent =
    SavesStep is_honest held state_text
    (λ step. IsStep step × (reply ≡ step.reply) × (sent ≡ step.sent)) new

-- the text is that of the state that such a step leaves
pub record IsLeft {C : Type 0} (state_text : C → List ℕ) (IsStep : TextStep C → Type 0)
    (text : List ℕ) : Type 0 where
  pub step : TextStep C
  pub is_step : IsStep step
  pub state : text ≡ state_text step.next
