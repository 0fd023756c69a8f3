-- How the words of the command line end.
use Rattle.std.specs.Prelude.{◌≡◌, ◌≢◌, ◌⊎◌, ℕ, Bool, List, [], map, String, string_bytes}
use Rattle.std.specs.Prelude.{Option, Some, None, is_some, option_map, false, true}
use Rattle.std.specs.Prelude.{if◌then◌else◌}
use Rattle.std.specs.Borrow.{Bor}
use Rattle.std.specs.declared.alloc.Global.{Global}
use Rattle.clap.specs.Words.{IsAmong, fault_of, subcommand_of, takes}
use Rattle.clap.specs.declared.error.kind.ErrorKind.{ErrorKind}
use Rattle.httparse.specs.Grammar.{is_token}
use Rattle.ticket_items.specs.declared.refusal.Refusal.TheVariants.{Memory}
use Rattle.streams.specs.declared.refused.Refused.TheVariants.{Core, ReadFailed, SaveFailed}
use Rattle.streams.specs.declared.fault.Fault.TheVariants.{Device, Input}
use Rattle.streams.specs.Ends.{GivesOut, GivesUp}
use Rattle.streams.specs.Streams.{IsUntouched, Stream, Traffic}
use Rattle.jdf_words.specs.Calls.{IsEdit, IsInvocation, is_asked}
use Rattle.jdf_words.specs.Commands.{jdf}
use Rattle.jdf_words.specs.declared.call.Call.{Call}
use Rattle.jdf_words.specs.declared.call.Call.TheVariants.{Document, Kept, Network}
use Rattle.jdf_words.specs.declared.invocation.Invocation.{Invocation}
use Rattle.jdf_words.specs.declared.kept_call.KeptCall.{KeptCall}
use Rattle.jdf_words.specs.declared.network_call.NetworkCall.{NetworkCall}
use Rattle.jdf_words.specs.declared.network_call.NetworkCall.TheVariants.{Loop, Send, SendOrder}
use Rattle.jdf_words.specs.declared.network_call.NetworkCall.TheVariants.{Serve}
use Rattle.cell_commands.specs.Calls.{EndsInCell}
use Rattle.etcd_place.specs.Place.{etcd_place_in, is_etcd}
use Rattle.jdf_commands.specs.Calls.{EndsDocument}
use Rattle.document_commands.specs.Caused.{GivesUpCaused}
use Rattle.file_commands.specs.Ends.{EndsInFile}
use Rattle.jdf_loop.specs.Run.{EndsLoop}
use Rattle.jdf_send.specs.InputFile.{file_of}
use Rattle.jdf_send.specs.OrderCommand.{EndsSendOrder}
use Rattle.jdf_send.specs.SendCommand.{EndsSend}
use Rattle.jdf_net.specs.ServeCommand.{EndsServe}
use Rattle.jdf_net.specs.declared.words.TheConstants.{NO_CALL}

-- ---- calls on a controller that is kept

-- it is to be a place in etcd, and is none: nothing is read or written, and there is no call
abbrev pub EndsNowhere : Traffic → Traffic → ℕ → Type 0
EndsNowhere input output status = IsUntouched input × IsUntouched output × (status ≡ NO_CALL)

-- a call ends as in its cell, where FILE is a place in etcd
abbrev pub EndsInEtcd : Bool → KeptCall → Traffic → Traffic → Traffic → ℕ → Type 0
EndsInEtcd true call input output told status = EndsInCell call input output told status
EndsInEtcd false call input output told status = EndsNowhere input output status

-- how it ends: in etcd where FILE begins with `etcd://`, else in the file
abbrev pub EndsKept : Bool → List ℕ → KeptCall → Traffic → Traffic → Traffic → ℕ → Type 0
EndsKept true file call input output told status =
    EndsInEtcd (is_some (etcd_place_in file)) call input output told status
EndsKept false file call input output told status = EndsInFile file call input output told status

-- ---- calls over the network

-- an order whose message is sent: of a controller in etcd that isn't done
abbrev pub EndsSending : Bool → Bor (List ℕ) → ℕ → List ℕ → Traffic → Traffic → Traffic → ℕ
    → Type 0
EndsSending true file at url input output told status = EndsNowhere input output status
EndsSending false file at url input output told status =
    EndsSendOrder file at url input output told status

-- the name of the field that is to tell who sends, where no field can have it (RFC 9110)
abbrev pub wrong_name : Option (List ℕ) → Option (List ℕ)
wrong_name None = None
wrong_name (Some name) = if is_token name then None else Some name

-- `serve`: where it is given such a name nothing is written, and there is no call
abbrev pub EndsServing : Option (List ℕ) → Traffic → ℕ → Type 0
EndsServing (Some name) output status = IsUntouched output × (status ≡ NO_CALL)
EndsServing None output status = EndsServe status

-- how a call over the network ends
abbrev pub EndsNetwork : NetworkCall → Traffic → Traffic → Traffic → ℕ → Type 0
EndsNetwork Loop input output told status = EndsLoop input output told status
EndsNetwork (SendOrder file at url) input output told status =
    EndsSending (is_etcd file.now) file at url.now input output told status
EndsNetwork (Serve file listen limits requests peers field) input output told status =
    IsUntouched input
    × EndsServing (wrong_name (option_map (λ name. name.now) field)) output status
EndsNetwork (Send url file) input output told status = EndsSend input output told status

-- ---- calls

-- how a call ends
abbrev pub EndsAnyCall : Call → Traffic → Traffic → Traffic → ℕ → Type 0
EndsAnyCall (Document call) input output told status = EndsDocument call input output told status
EndsAnyCall (Kept file call) input output told status =
    EndsKept (is_etcd file.now) file.now call input output told status
EndsAnyCall (Network call) input output told status = EndsNetwork call input output told status

-- a call ends so, and behind all that it tells something may be told
abbrev pub EndsTelling : Call → Traffic → Traffic → Traffic → ℕ → Type 0
EndsTelling call input output told status =
    (tells : Stream)
    × EndsAnyCall call input output (record { before = told.before; after = tells }) status

-- how a call with a journal ends: that can't be opened, which is told, and nothing is read; or as the
-- call does, and behind all else it may be told that lines aren't in it
abbrev pub EndsWithJournal : Call → Traffic → Traffic → Traffic → ℕ → Type 0
EndsWithJournal call input output told status =
    (IsUntouched input × GivesUpCaused (Device SaveFailed) output told status)
    ⊎ EndsTelling call input output told status

-- the same where the path of a journal is named, and else as the call does
abbrev pub EndsJournaled : Option (List ℕ) → Call → Traffic → Traffic → Traffic → ℕ → Type 0
EndsJournaled None call input output told status = EndsAnyCall call input output told status
EndsJournaled (Some path) call input output told status =
    EndsWithJournal call input output told status

-- what words stand for: `edit` where there is none
pub record AreWordsOf (words : List (String Global)) (i : Invocation) : Type 0 where
  pub edit : words ≡ [] → IsEdit i
  pub named : words ≢ [] → IsInvocation i (subcommand_of jdf (map string_bytes words))

-- clap's text, of which nothing is said here, is written where it is what is asked for, with status
-- 0; or else nothing is written, the text is told, and the status says that there is no call
abbrev pub EndsAnswer : Bool → Traffic → Traffic → ℕ → Type 0
EndsAnswer true output told status =
    ((text : List ℕ) × GivesOut text false output told status)
    ⊎ GivesUp (Input (Core Memory)) output told status
EndsAnswer false output told status = IsUntouched output × (status ≡ NO_CALL)

-- these words stand for no call: nothing is read, and clap answers them with a text of this kind
pub record IsAnswered (words : List (String Global)) (input output told : Traffic) (status : ℕ)
    : Type 0 where
  pub some : words ≢ []
  pub wrong : takes jdf (map string_bytes words) ≢ true
  pub kind : ErrorKind
  pub among : IsAmong kind (fault_of jdf (map string_bytes words))
  pub unread : IsUntouched input
  pub ends : EndsAnswer (is_asked (map string_bytes words) kind) output told status

-- no call was made of it yet
abbrev pub IsFresh : Stream → Type 0
IsFresh s = (s.calls ≡ 0) × (s.failures ≡ 0) × (s.interruptions ≡ 0)

-- how a call, with the journal that is named, ends whose input comes from a file: as it ends over
-- that, of which nothing was read before; or the file can't be opened, which is told, and nothing is
-- done
abbrev pub EndsFromFile : Option (List ℕ) → Call → Traffic → Traffic → ℕ → Type 0
EndsFromFile journal call output told status =
    ((file : Traffic) × IsFresh file.before × EndsJournaled journal call file output told status)
    ⊎ GivesUpCaused (Device ReadFailed) output told status

-- how a call ends whose input comes from this file, and not from standard input, where one is named
abbrev pub EndsFrom : (from journal : Option (List ℕ)) → Call → Traffic → Traffic → Traffic → ℕ → Type 0
EndsFrom None journal call input output told status =
    EndsJournaled journal call input output told status
EndsFrom (Some path) journal call input output told status =
    IsUntouched input × EndsFromFile journal call output told status

-- the same of what words stand for
abbrev pub EndsInvocation : Invocation → Traffic → Traffic → Traffic → ℕ → Type 0
EndsInvocation i input output told status =
    EndsFrom (file_of (option_map (λ path. path.now) i.from)) (option_map (λ path. path.now) i.journal)
    i.call input output told status

-- the call of the words is run; or they stand for none, and are answered; or memory ran out for
-- reading them
abbrev pub EndsWords : List (String Global) → Traffic → Traffic → Traffic → ℕ → Type 0
EndsWords words input output told status =
    ((i : Invocation) × AreWordsOf words i × EndsInvocation i input output told status)
    ⊎ (IsAnswered words input output told status
    ⊎ (IsUntouched input × GivesUp (Input (Core Memory)) output told status))
