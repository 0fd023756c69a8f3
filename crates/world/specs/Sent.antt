-- The messages that were sent, as their texts are held.
use Rattle.std.specs.Prelude.{Bool, List}
use Rattle.controller.specs.declared.message.Message.{Message}

-- the messages, and whether there is room for the text of one more
pub record SentMessages : Type 0 where
  pub messages : List Message
  pub has_room : Bool
