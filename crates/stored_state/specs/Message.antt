-- The text of a message, and the messages that bytes are.
use Rattle.std.specs.Prelude.{◌≡◌, ℕ, List, Ok, Option, option_and_then}
use Rattle.std.specs.List.{filter_map}
use Rattle.std.specs.Result.{result_ok}
use Rattle.serde_json.specs.Read.{read}
use Rattle.serde_json.specs.Written.{compact_text}
use Rattle.controller.specs.declared.message.Message.{Message}
use Rattle.jmf_message.specs.Decoded.{IsDecodedAs, message_read}
use Rattle.jmf_message.specs.Written.{message_data}

-- the text of a message
abbrev pub message_text : Message → List ℕ
message_text m = compact_text (message_data m)

-- the bytes are a message, of which this holds
pub record IsOfMessage (bytes : List ℕ) (Holds : Message → Type 0) : Type 0 where
  pub message : Message
  pub decoded : IsDecodedAs bytes (Ok message)
  pub holds : Holds message

-- the message that bytes are, if they are one
abbrev pub message_in : List ℕ → Option Message
message_in bytes = option_and_then (λ d. result_ok (message_read d)) (read bytes)

-- the messages that texts are
abbrev pub messages_in : List (List ℕ) → List Message
messages_in texts = filter_map message_in texts

-- the bytes are the text of the message that they are
abbrev pub IsMessageText : List ℕ → Type 0
IsMessageText bytes = IsOfMessage bytes (λ m. bytes ≡ message_text m)
