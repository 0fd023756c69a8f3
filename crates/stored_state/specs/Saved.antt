-- A controller beside the text of its state, whichever it is.
use Rattle.std.specs.Prelude.{◌≡◌, ℕ, List, Ok}
use Rattle.json_profile.specs.ReadAs.{IsReadAs}
use Rattle.stored_state.specs.AnyStep.{text_of}
use Rattle.stored_state.specs.Opened.{AnyController, any_state_read}

-- the text is that of the state of a controller, and is read as it again
pub record IsTextOf (text : List ℕ) (c : AnyController) : Type 0 where
  pub is : text ≡ text_of c
  pub again : IsReadAs any_state_read text (Ok c)
