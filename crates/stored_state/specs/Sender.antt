-- Who sent the message that bytes are.
use Rattle.std.specs.Prelude.{◌≡◌, ℕ, List, Option, Some}
use Rattle.stored_state.specs.Message.{IsOfMessage}

-- the bytes are a message, and this is who sent it
abbrev pub IsSentBy : List ℕ → Option (List ℕ) → Type 0
IsSentBy bytes sender = IsOfMessage bytes (λ m. sender ≡ Some m.sender)
