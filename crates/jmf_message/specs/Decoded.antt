-- The message that bytes are, or why they are none: the first of `NotJson`, `NotProfile`,
-- `WrongVersion`, `WrongMessage`, `BadId`, `BadText`, and then what is wrong with the part.
use Rattle.std.specs.Prelude.{ℕ, ◌&&◌, ◌==◌, Bool, true, List, if◌then◌else◌, Option}
use Rattle.std.specs.Prelude.{Some, None, option_and_then, Result, Ok, Err}
use Rattle.std.specs.Option.{option_map, option_map_or}
use Rattle.std.specs.Str.{bytes_eq}
use Rattle.serde_json.specs.Data.{Data}
use Rattle.json_items.specs.Validation.{checked_fault, checked_value}
use Rattle.json_profile.specs.ReadAs.{IsReadAs, IsRefusalOf as IsUnread}
use Rattle.json_items.specs.PartDraft.{RawPart}
use Rattle.json_items.specs.PartForm as part
use Rattle.json_source.specs.Read.{◌>>=◌, some_if}
use Rattle.ticket_items.specs.Names.{is_name}
use Rattle.ticket_tree.specs.Part.{PartCopy}
use Rattle.ticket_items.specs.declared.refusal.Refusal.{Refusal}
use Rattle.ticket_items.specs.declared.refusal.Refusal.TheVariants.{NotProfile}
use Rattle.ticket_items.specs.declared.refusal.Refusal.TheVariants.{WrongVersion, WrongMessage}
use Rattle.jmf_message.specs.Form.{RawJmf, RawMessage, document_form}
use Rattle.controller.specs.Words.{version}
use Rattle.controller.specs.declared.body.Body.{Body}
use Rattle.controller.specs.declared.body.Body.TheVariants as bodies
use Rattle.controller.specs.declared.command.Command.{Command}
use Rattle.controller.specs.declared.command.Command.TheVariants.{Submit, Return, Abort}
use Rattle.controller.specs.declared.message.Message.{Message}
use Rattle.jmf_message.specs.declared.family.Family.{Family}
use Rattle.jmf_message.specs.declared.family.Family.TheVariants as said

-- the body of a command of the spawn of a part
abbrev pub body_with : Command → PartCopy → Body
body_with Submit part = bodies.Submit part
body_with Return part = bodies.Return part
body_with Abort part = bodies.Abort part.spawn_id

-- what is asked of a spawn by what is said
abbrev pub command_of : ℕ → Family → Option Command
command_of spawn (said.Command asked other) = some_if (spawn == other) >>= λ _. Some asked
command_of spawn (said.Answer asked other result) = None

-- the body of what is said with a part, which has to be that of the spawn
abbrev pub body_with_part : RawPart → Family → Option Body
body_with_part p s = option_map (λ asked. body_with asked (part.part_of_raw p)) (command_of p.spawn s)

-- and of what is said without one
abbrev pub body_without_part : Family → Option Body
body_without_part (said.Command Submit spawn) = None
body_without_part (said.Command Return spawn) = None
body_without_part (said.Command Abort spawn) = Some (bodies.Abort spawn)
body_without_part (said.Answer asked spawn result) = Some (bodies.Answer asked spawn result)

-- the body of what is said with the part that stands beside it, or with none
abbrev pub body_beside_part : Option RawPart → Family → Option Body
body_beside_part None s = body_without_part s
body_beside_part (Some p) s = body_with_part p s

-- the body of a message that says what it may
abbrev pub body_of : RawMessage → Option Body
body_of m = option_and_then (body_beside_part m.part) m.jmf.said

-- whether the sender and the receiver are ids
abbrev pub are_ids : RawJmf → Bool
are_ids j = is_name j.sender && is_name j.receiver

-- whether all ids and names, and all texts, of a message and its part are valid
abbrev pub has_names : RawMessage → Bool
has_names m = are_ids m.jmf && option_map_or part.has_names m.part true

abbrev pub has_texts : RawMessage → Bool
has_texts m = option_map_or part.has_texts m.part true

-- what is wrong with a message that says what it may: each fault is looked for in it and in its
-- part alike before the next one is
abbrev pub message_fault : RawMessage → Option Refusal
message_fault m =
    checked_fault (has_names m) (has_texts m) (option_and_then part.built_fault m.part)

-- the message of a body
abbrev pub message_with : RawMessage → Body → Message
message_with m b =
    record { sender = m.jmf.sender; receiver = m.jmf.receiver; at = m.jmf.at; body = b }

-- the message of a body, if it says what it may, or the first refusal
abbrev pub message_saying : RawMessage → Option Body → Result Message Refusal
message_saying m said =
    option_map_or (λ b. checked_value (message_fault m) (message_with m b)) said (Err WrongMessage)

-- the message that a document is by its form, which has to be of the right Version
abbrev pub draft_read : RawMessage → Result Message Refusal
draft_read m =
    if bytes_eq m.jmf.version version then message_saying m (body_of m) else Err WrongVersion

-- what a JMF object says, which has to be of the right Version
abbrev pub checked_family : RawJmf → Result Family Refusal
checked_family j =
    if bytes_eq j.version version then option_map_or Ok j.said (Err WrongMessage)
    else Err WrongVersion

-- the message that JSON data is
abbrev pub message_read : Data → Result Message Refusal
message_read d = option_map_or draft_read (document_form d) (Err NotProfile)

-- the bytes are JSON that is read so
abbrev pub IsDecodedAs : List ℕ → Result Message Refusal → Type 0
IsDecodedAs bytes answer = IsReadAs message_read bytes answer

-- why bytes are refused: they are no JSON, or this is the first refusal of their data, or memory
-- ran out
abbrev pub IsRefusalOf : List ℕ → Refusal → Type 0
IsRefusalOf bytes e = IsUnread message_read bytes e
