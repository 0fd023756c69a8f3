-- A controller beside the text of its state.
use Rattle.std.specs.Prelude.{◌≡◌, ℕ, List, Option, IfSome, Result, Ok}
use Rattle.serde_json.specs.Data.{Data}
use Rattle.serde_json.specs.Written.{compact_text}
use Rattle.json_profile.specs.ReadAs.{IsReadAs}
use Rattle.ticket_items.specs.declared.refusal.Refusal.{Refusal}

-- the text is that of the state of a controller, and is read as it again
pub record IsStateText {C : Type 0} (state_data : C → Data) (state_read : Data → Result C Refusal)
    (text : List ℕ) (c : C) : Type 0 where
  pub is : text ≡ compact_text (state_data c)
  pub again : IsReadAs state_read text (Ok c)

-- a controller beside the text of its state and a second value of it, if there is one
pub record IsMemorySeat {C : Type 0} (state_data : C → Data) (state_read : Data → Result C Refusal)
    (c : C) (text : List ℕ) (twin : Option C) : Type 0 where
  pub text_is : IsStateText state_data state_read text c
  pub same : IfSome twin (λ s. s ≡ c)
