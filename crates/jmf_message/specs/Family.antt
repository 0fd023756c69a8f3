-- What a document says, if it says what a message may: exactly what is written for it.
use Rattle.std.specs.Prelude.{ℕ, ◌&&◌, ◌==◌, Bool, true, false, List, [], ◌∷◌, if◌then◌else◌, codes}
use Rattle.std.specs.Prelude.{Option, Some, None, option_and_then, Result, Ok, Err}
use Rattle.std.specs.Option.{option_map, option_map_or}
use Rattle.std.specs.Str.{bytes_eq}
use Rattle.serde_json.specs.Data.{Data, Members, member, no_members, number, object, string}
use Rattle.serde_json.specs.Data.{unsigned}
use Rattle.serde_json.specs.Find.{as_str, get}
use Rattle.json_source.specs.Read.{◌>>=◌, some_if, number_of, number_under, text_under}
use Rattle.ticket_items.specs.SpawnId.{spawn_of}
use Rattle.controller.specs.Words.{command_named, is_reason, is_told, mark_of, row_of, status_named}
use Rattle.controller.specs.declared.command.Command.{Command}
use Rattle.controller.specs.declared.queue_status.QueueStatus.{QueueStatus}
use Rattle.jmf_message.specs.Written.{said_data}
use Rattle.jmf_message.specs.declared.family.Family.{Family}
use Rattle.jmf_message.specs.declared.family.Family.TheVariants as said

-- ---- members

-- whether data is what is written: this text, this whole number, or an object in which what is
-- written stands under each name
abbrev mutual
  pub says : Data → Data → Bool
  says (string text) d = option_map_or (λ found. bytes_eq found text) (as_str d) false
  says (number (unsigned n)) d = option_map_or (λ found. found == n) (number_of d) false
  says (object ms) d = says_all ms d
  says written d = false

  pub says_all : Members → Data → Bool
  says_all no_members d = true
  says_all (member name x ms) d = option_map_or (says x) (get name d) false && says_all ms d

-- what a sender says by data, if this is what is written for it
abbrev pub confirmed_family : List ℕ → Data → Family → Option Family
confirmed_family sender d s = some_if (says (said_data sender s) d) >>= λ _. Some s

-- ---- commands

-- the spawn that the params of such a command name
abbrev pub spawn_in_params : Command → Data → Option ℕ
spawn_in_params asked d =
    option_and_then spawn_of
    (option_and_then (text_under (codes "QueueEntryID")) (get (row_of asked).params d))

-- what such a command asks of the spawn
abbrev pub command_in_params : Command → Data → Option Family
command_in_params asked d = option_map (said.Command asked) (spawn_in_params asked d)

-- a sender's command has to be that of the spawn that its params name
abbrev pub confirmed_command : List ℕ → Command → Data → Option Family
confirmed_command sender asked d = option_and_then (confirmed_family sender d) (command_in_params asked d)

-- ---- responses

-- what stands behind the front of a text, if the text begins so
abbrev pub behind : List ℕ → List ℕ → Option (List ℕ)
behind [] text = Some text
behind (c ∷ front) [] = None
behind (c ∷ front) (d ∷ text) = if d == c then behind front text else None

-- the spawn of which the ID of such a command speaks
abbrev pub spawn_behind : Command → List ℕ → Option ℕ
spawn_behind asked id = option_and_then spawn_of (behind (mark_of asked) id)

-- the command that a response's Type names, and the spawn that its refID does
abbrev pub command_in : Data → Option (Command × ℕ)
command_in d = do
  asked ← option_and_then command_named (text_under (codes "Type") d)
  spawn ← option_and_then (spawn_behind asked) (text_under (codes "refID") d)
  Some (asked, spawn)

-- the reason of a refusal
abbrev pub refusal_in : ℕ → Option (Result QueueStatus ℕ)
refusal_in n = some_if (is_reason n) >>= λ _. Some (Err n)

-- the Status of the queue entry, or where there is none the reason of a refusal
abbrev pub response_at : Option Data → Data → Option (Result QueueStatus ℕ)
response_at (Some entry) d =
    option_map Ok (option_and_then status_named (text_under (codes "Status") entry))
response_at None d = option_and_then refusal_in (number_under (codes "Reason") d)

-- what a response tells of its command
abbrev pub response_in : Data → Option (Result QueueStatus ℕ)
response_in d = response_at (get (codes "QueueEntry") d) d

-- what is answered so, with the result that is told
abbrev pub answer_in : Data → Option Family
answer_in d = do
  answered ← command_in d
  told ← response_in d
  Some (said.Answer answered.0 answered.1 told)

-- a response has to be that to this command, with this result
abbrev pub confirmed_response : List ℕ → Data → Option Family
confirmed_response sender d = option_and_then (confirmed_family sender d) (answer_in d)

-- ---- what may be said

-- whether what is said may be sent: the number of a refusal in it is one
abbrev pub can_be_sent : Family → Bool
can_be_sent (said.Command asked spawn) = true
can_be_sent (said.Answer asked spawn result) = is_told result
