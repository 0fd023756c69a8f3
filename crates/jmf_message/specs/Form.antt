-- The form of messages (JMF; JDF 1.5, 5): by their members and their kinds alone, so that their
-- texts and numbers may be any.
use Rattle.std.specs.Prelude.{ℕ, ◌&&◌, Bool, true, false, List, [], ◌∷◌, if◌then◌else◌, codes}
use Rattle.std.specs.Prelude.{is_some, Option, Some, None}
use Rattle.std.specs.List.{list_all}
use Rattle.std.specs.Map.{keys_of}
use Rattle.std.specs.Option.{option_map, option_map_or, option_and_then}
use Rattle.serde_json.specs.Data.{Data}
use Rattle.serde_json.specs.Find.{get}
use Rattle.json_items.specs.PartDraft.{RawPart, part_form}
use Rattle.json_source.specs.Read.{◌>>=◌, some_if, has_only, number_under, text_under}
use Rattle.controller.specs.Words.{row_of}
use Rattle.controller.specs.declared.command.Command.{Command}
use Rattle.controller.specs.declared.command.Command.TheVariants.{Submit, Return, Abort}
use Rattle.jmf_message.specs.Family.{confirmed_command, confirmed_response}
use Rattle.jmf_message.specs.Written.{params_texts}
use Rattle.jmf_message.specs.declared.family.Family.{Family}

-- ---- objects of texts

-- whether texts stand under these names
abbrev pub are_texts : List (List ℕ) → Data → Bool
are_texts names d = list_all (λ n. is_some (text_under n d)) names

-- whether it is an object of texts under these names alone
abbrev pub is_of_texts : List (List ℕ) → Data → Bool
is_of_texts names d = has_only names d && are_texts names d

-- ---- commands

-- the names of a command's params
abbrev pub params_names : Command → List (List ℕ)
params_names asked = keys_of (params_texts [] asked 0)

-- whether data is such a command
unfoldable pub is_command : Command → Data → Bool
is_command asked d = has_only ((row_of asked).params ∷ codes "ID" ∷ codes "Type" ∷ []) d
    && are_texts (codes "ID" ∷ codes "Type" ∷ []) d
    && option_map_or (is_of_texts (params_names asked)) (get (row_of asked).params d) false

-- the command that data is
abbrev pub command_form : Data → Option Command
command_form d =
    if is_command Submit d then Some Submit else
    (if is_command Return d then Some Return else
    (if is_command Abort d then Some Abort else None))

-- ---- responses

-- the members of a response, and those of its queue entry
abbrev pub response_members : List (List ℕ)
response_members = codes "ID" ∷ codes "QueueEntry" ∷ codes "Reason" ∷ codes "ReturnCode"
    ∷ codes "Type" ∷ codes "refID" ∷ []

abbrev pub entry_names : List (List ℕ)
entry_names = codes "QueueEntryID" ∷ codes "Status" ∷ []

-- whether data is a response. Its queue entry may be absent
unfoldable pub is_response : Data → Bool
is_response d = has_only response_members d
    && are_texts (codes "ID" ∷ codes "Type" ∷ codes "refID" ∷ []) d
    && is_some (number_under (codes "Reason") d) && is_some (number_under (codes "ReturnCode") d)
    && option_map_or (is_of_texts entry_names) (get (codes "QueueEntry") d) true

-- ---- JMF objects

-- of exactly one of a command and a response: whether a part goes with it, and what a sender says
-- by it, if it is what a message may say
abbrev pub one_family : List ℕ → Option Data → Option Data → Option (Bool × Option Family)
one_family sender (Some d) None =
    option_map (λ asked. ((row_of asked).has_part, confirmed_command sender asked d)) (command_form d)
one_family sender None (Some d) =
    if is_response d then Some (false, confirmed_response sender d) else None
one_family sender None None = None
one_family sender (Some d) (Some e) = None

-- the same of the members of a JMF object
abbrev pub family_form : List ℕ → Data → Option (Bool × Option Family)
family_form sender d = one_family sender (get (codes "Command") d) (get (codes "Response") d)

-- the members of a JMF object
abbrev pub jmf_members : List (List ℕ)
jmf_members = codes "Command" ∷ codes "ReceiverID" ∷ codes "Response" ∷ codes "SenderID"
    ∷ codes "TimeStamp" ∷ codes "Version" ∷ []

-- a JMF object: who sends it to whom and when, of which Version it is, whether a part goes with
-- it, and what it says if it says what it may
pub record RawJmf : Type 0 where
  pub receiver : List ℕ
  pub sender : List ℕ
  pub at : ℕ
  pub version : List ℕ
  pub has_part : Bool
  pub said : Option Family

unfoldable pub jmf_form : Data → Option RawJmf
jmf_form d = do
  _ ← some_if (has_only jmf_members d)
  receiver ← text_under (codes "ReceiverID") d
  sender ← text_under (codes "SenderID") d
  at ← number_under (codes "TimeStamp") d
  version ← text_under (codes "Version") d
  family ← family_form sender d
  Some (record {
    receiver = receiver;
    sender = sender;
    at = at;
    version = version;
    has_part = family.0;
    said = family.1;
  })

-- ---- documents

-- a message by its members and their kinds alone
pub record RawMessage : Type 0 where
  pub jmf : RawJmf
  pub part : Option RawPart

-- a part stands beside a message with which one goes, and none beside another
abbrev pub part_beside : Bool → Option Data → Option (Option RawPart)
part_beside goes (Some d) = if goes then option_map Some (part_form d) else None
part_beside goes None = if goes then None else Some None

-- a message's members, and the message that data is by these
abbrev pub document_members : List (List ℕ)
document_members = codes "JDF" ∷ codes "JMF" ∷ []

unfoldable pub document_form : Data → Option RawMessage
document_form d = do
  _ ← some_if (has_only document_members d)
  jmf ← option_and_then jmf_form (get (codes "JMF") d)
  part ← part_beside jmf.has_part (get (codes "JDF") d)
  Some (record { jmf = jmf; part = part })
