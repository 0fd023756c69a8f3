-- What a step is made of, by its name.
use Rattle.std.specs.Prelude.{ℕ, List, ◌++◌, codes, Option, Some, None, Result, Ok, Err}
use Rattle.serde_json.specs.Data.{Data}
use Rattle.ticket_items.specs.declared.refusal.Refusal.{Refusal}
use Rattle.ticket_items.specs.declared.refusal.Refusal.TheVariants.{NotProfile}
use Rattle.json_source.specs.Read.{text_under}
use Rattle.controller.specs.Words.{type_of}
use Rattle.controller.specs.declared.body.Body.{Body}
use Rattle.controller.specs.declared.body.Body.TheVariants.{Submit, Return, Abort, Answer}
use Rattle.controller.specs.declared.command.Command.{Command}
use Rattle.controller.specs.declared.command.Command.TheVariants as command

-- the name of an answer to a command
abbrev pub answer_word : Command → List ℕ
answer_word c = codes "Response" ++ type_of c

-- the name of a message
abbrev pub message_word : Body → List ℕ
message_word (Submit p) = type_of command.Submit
message_word (Return p) = type_of command.Return
message_word (Abort s) = type_of command.Abort
message_word (Answer c s told) = answer_word c

-- a name, if there is one
abbrev pub name_or_refusal : Option (List ℕ) → Result (List ℕ) Refusal
name_or_refusal None = Err NotProfile
name_or_refusal (Some word) = Ok word

-- the name that data has as an order: the text under `Order`
abbrev pub order_named : Data → Result (List ℕ) Refusal
order_named d = name_or_refusal (text_under (codes "Order") d)
