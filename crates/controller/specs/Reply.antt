-- What a controller replies, and the answer that a command gets.
use Rattle.std.specs.Prelude.{ℕ, List, Option, Some, None, Result}
use Rattle.std.specs.Option.{option_map}
pub use Rattle.controller.specs.Words.{is_answer, spawn_in}
pub use Rattle.world_items.specs.Reply.{is_freed, spawn_of_reply, word_of}
use Rattle.controller.specs.declared.body.Body.{Body}
use Rattle.controller.specs.declared.body.Body.TheVariants.{Submit, Return, Abort, Answer}
use Rattle.controller.specs.declared.command.Command.{Command}
use Rattle.controller.specs.declared.command.Command.TheVariants as command
use Rattle.controller.specs.declared.message.Message.{Message}
use Rattle.controller.specs.declared.queue_status.QueueStatus.{QueueStatus}

-- the command that a message gives
abbrev pub command_given : Body → Option Command
command_given (Submit p) = Some command.Submit
command_given (Return p) = Some command.Return
command_given (Abort s) = Some command.Abort
command_given (Answer c s response) = None

-- the message by which the controller of a name answers a command, at a time, to the command's
-- sender
abbrev pub answer_message : List ℕ → Message → ℕ → Result QueueStatus ℕ → Command → Message
answer_message name m at response c =
    record { sender = name; receiver = m.sender; at = at; body = Answer c (spawn_in m.body) response }

-- its answer to a message: to a command that message, and to an answer none
abbrev pub answer_to : List ℕ → Message → ℕ → Result QueueStatus ℕ → Option Message
answer_to name m at response = option_map (answer_message name m at response) (command_given m.body)
