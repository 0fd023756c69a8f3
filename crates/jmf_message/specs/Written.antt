-- What a message is in JMF (JMF; JDF 1.5, 5): the one table by which messages are written, and by
-- which they are read.
use Rattle.std.specs.Prelude.{ℕ, List, [], ◌∷◌, codes, Result, Ok, Err}
use Rattle.serde_json.specs.Data.{Data, Members, no_members, member, put, unsigned, number, string}
use Rattle.serde_json.specs.Data.{object}
use Rattle.json_items.specs.Attributes.{attrs_data}
use Rattle.json_text.specs.PartWritten.{part_data}
use Rattle.ticket_items.specs.Attrs.{Pairs}
use Rattle.ticket_items.specs.SpawnId.{spawn_text}
use Rattle.controller.specs.Words.{answer_id, command_id, no_place, place_of, status_word}
use Rattle.controller.specs.Words.{row_of, type_of, version}
use Rattle.controller.specs.declared.body.Body.{Body}
use Rattle.controller.specs.declared.body.Body.TheVariants as bodies
use Rattle.controller.specs.declared.command.Command.{Command}
use Rattle.controller.specs.declared.command.Command.TheVariants.{Submit, Return, Abort}
use Rattle.controller.specs.declared.message.Message.{Message}
use Rattle.controller.specs.declared.queue_status.QueueStatus.{QueueStatus}
use Rattle.jmf_message.specs.declared.family.Family.{Family}
use Rattle.jmf_message.specs.declared.family.Family.TheVariants as said

-- ---- commands

-- the params of a sender's command of a spawn (that of an abort is our own)
abbrev pub params_texts : List ℕ → Command → ℕ → Pairs
params_texts sender Submit spawn = (codes "QueueEntryID", spawn_text spawn)
    ∷ (codes "ReturnJMF", place_of sender) ∷ (codes "ReturnURL", no_place)
    ∷ (codes "URL", no_place) ∷ []
params_texts sender Return spawn = (codes "QueueEntryID", spawn_text spawn)
    ∷ (codes "URL", no_place) ∷ []
params_texts sender Abort spawn = (codes "QueueEntryID", spawn_text spawn) ∷ []

-- a sender's command of a spawn; its params stand in the byte order of the names
abbrev pub command_data : List ℕ → Command → ℕ → Data
command_data sender asked spawn =
    object (put (row_of asked).params (attrs_data (params_texts sender asked spawn))
    (member (codes "ID") (string (command_id asked spawn))
    (member (codes "Type") (string (type_of asked)) no_members)))

-- ---- responses

-- the queue entry of a spawn
abbrev pub entry_texts : ℕ → QueueStatus → Pairs
entry_texts spawn status = (codes "QueueEntryID", spawn_text spawn)
    ∷ (codes "Status", status_word status) ∷ []

-- it stands in the response to a command that was taken
abbrev pub put_entry : ℕ → Result QueueStatus ℕ → Members → Members
put_entry spawn (Ok status) ms =
    put (codes "QueueEntry") (attrs_data (entry_texts spawn status)) ms
put_entry spawn (Err reason) ms = ms

-- the Reason why the command was refused, and the ReturnCode
abbrev pub reason_of : Result QueueStatus ℕ → ℕ
reason_of (Ok status) = 0
reason_of (Err reason) = reason

abbrev pub code_of : Result QueueStatus ℕ → ℕ
code_of (Ok status) = 0
code_of (Err reason) = 1

-- the response to the command of a spawn
abbrev pub response_data : Command → ℕ → Result QueueStatus ℕ → Data
response_data asked spawn result =
    object (put_entry spawn result
    (member (codes "ID") (string (answer_id asked spawn))
    (member (codes "Reason") (number (unsigned (reason_of result)))
    (member (codes "ReturnCode") (number (unsigned (code_of result)))
    (member (codes "Type") (string (type_of asked))
    (member (codes "refID") (string (command_id asked spawn)) no_members))))))

-- ---- messages

-- the command or the response by which a sender says this
abbrev pub said_data : List ℕ → Family → Data
said_data sender (said.Command asked spawn) = command_data sender asked spawn
said_data sender (said.Answer asked spawn result) = response_data asked spawn result

-- what is said by a body, without its part
abbrev pub family_of : Body → Family
family_of (bodies.Submit part) = said.Command Submit part.spawn_id
family_of (bodies.Return part) = said.Command Return part.spawn_id
family_of (bodies.Abort spawn) = said.Command Abort spawn
family_of (bodies.Answer asked spawn result) = said.Answer asked spawn result

-- the spawn of what is said
abbrev pub spawn_said : Family → ℕ
spawn_said (said.Command asked spawn) = spawn
spawn_said (said.Answer asked spawn result) = spawn

-- the command or the response stands in the byte order of the names
abbrev pub put_said : List ℕ → Family → Members → Members
put_said sender (said.Command asked spawn) ms =
    put (codes "Command") (command_data sender asked spawn) ms
put_said sender (said.Answer asked spawn result) ms =
    put (codes "Response") (response_data asked spawn result) ms

-- the JMF object of a message
abbrev pub jmf_data : Message → Data
jmf_data m =
    object (put_said m.sender (family_of m.body)
    (member (codes "ReceiverID") (string m.receiver)
    (member (codes "SenderID") (string m.sender)
    (member (codes "TimeStamp") (number (unsigned m.at))
    (member (codes "Version") (string version) no_members)))))

-- the part stands beside a command that has one
abbrev pub put_part : Body → Members → Members
put_part (bodies.Submit part) ms = put (codes "JDF") (part_data part) ms
put_part (bodies.Return part) ms = put (codes "JDF") (part_data part) ms
put_part (bodies.Abort spawn) ms = ms
put_part (bodies.Answer asked spawn result) ms = ms

-- the data of a message
abbrev pub message_data : Message → Data
message_data m = object (put_part m.body (member (codes "JMF") (jmf_data m) no_members))
