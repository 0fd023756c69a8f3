-- How `send` ends.
use Rattle.std.specs.Prelude.{◌≡◌, ◌≢◌, ◌⊎◌, ◌++◌, ◌∷◌, ◌==◌, ℕ, Bool, List, [], false, true}
use Rattle.std.specs.Prelude.{Option, Some, None, IfSome, MatchResult, Result, Ok, Err, String}
use Rattle.std.specs.Prelude.{slice_index}
use Rattle.std.specs.Prelude.{string_bytes}
use Rattle.std.specs.declared.alloc.Global.{Global}
use Rattle.ticket_items.specs.declared.refusal.Refusal.{Refusal}
use Rattle.ticket_items.specs.declared.refusal.Refusal.TheVariants.{Memory}
use Rattle.controller.specs.declared.message.Message.{Message}
use Rattle.jmf_message.specs.Decoded.{IsDecodedAs, IsRefusalOf}
use Rattle.streams.specs.Ends.{GivesOut, GivesUp, Tells}
use Rattle.streams.specs.Fault.{fault_status}
use Rattle.streams.specs.Counts.{Counts}
use Rattle.streams.specs.Streams.{IsUntouched, Stream, Traffic, Writes, traffic}
use Rattle.streams.specs.declared.refused.Refused.{Refused}
use Rattle.streams.specs.declared.refused.Refused.TheVariants.{Core, LoadFailed}
use Rattle.streams.specs.declared.fault.Fault.{Fault}
use Rattle.streams.specs.declared.fault.Fault.TheVariants.{Device, Input}
use Rattle.url.specs.Parts.{Parts}
use Rattle.http_message.specs.Message.{Carries}
use Rattle.http_message.specs.Texts.{request_to}
use Rattle.http_message.specs.declared.kind.Kind.TheVariants.{Response}
use Rattle.peers_file.specs.Destination.{authority_of, destination_in}
use Rattle.peers_file.specs.Table.{IsUrlOf}
use Rattle.peers_file.specs.PeersInFile.{IsNoTable}
use Rattle.jdf_send.specs.declared.send_command.send_to.SendTo.{SendTo}
use Rattle.jdf_send.specs.declared.send_command.send_to.SendTo.TheVariants.{Peers, Url}
use Rattle.document_commands.specs.Caused.{GivesUpCaused}
use Rattle.jmf_message.specs.Refused.{refusal_told}
use Rattle.file_commands.specs.Answers.{IsRefusedBy}
use Rattle.file_commands.specs.Notes.{TellsNotes}

-- ---- where messages go

-- whether a text names a peers' file, whose path stands behind a `@`
abbrev pub names_peers : List ℕ → Bool
names_peers text = slice_index text 0 == 64

-- a text tells to send by the table of a file that it names; or to the URL that it is; or it tells
-- nothing
abbrev pub IsPlaceIn : List ℕ → Option SendTo → Type 0
IsPlaceIn text (Some (Peers rows)) = names_peers text ≡ true
IsPlaceIn text (Some (Url url)) = (names_peers text ≡ false) × (destination_in text ≡ Some url)
IsPlaceIn text None = (names_peers text ≡ false) × (destination_in text ≡ None)

-- why it isn't known where a text says to send to: memory ran out; or it names a peers' file, and
-- there is no table in that
abbrev pub IsNoPlace : List ℕ → Fault → Type 0
IsNoPlace text fault =
    (fault ≡ Input (Core Memory))
    ⊎ ((e : Refused) × (fault ≡ Device e) × IsNoTable e × (names_peers text ≡ true))

-- a message goes to that URL, or to the one that the table has for its receiver
abbrev pub GoesTo : SendTo → List ℕ → Option Parts → Type 0
GoesTo (Url url) message found = found ≡ Some url
GoesTo (Peers rows) message found =
    (m : Message) × IsDecodedAs message (Ok m) × IsUrlOf m.receiver rows found

-- a message was posted to a URL over a stream, whole, and the response that came then has this
-- status and this body
pub record IsPosted {S : Type 0} (remaining contents : S → Option (List ℕ)) (old new : Counts S)
    (url : Parts) (message : List ℕ) (status : ℕ) (body : List ℕ) : Type 0 where
  pub between : Counts S
  pub sent : Writes (traffic contents old between) (request_to (authority_of url) url.path message)
  pub came : IfSome (remaining between.inner) (λ all. Carries Response all status body)

-- ---- what is written

-- what is written of an answer: its text on a line, and nothing where it has none
abbrev pub answer_line : List ℕ → List ℕ
answer_line [] = []
answer_line (c ∷ cs) = (c ∷ cs) ++ 10 ∷ []

-- ---- what an answer tells

-- the answer refuses a message, and the line tells who refused
pub record RefusesBy (answer line : List ℕ) : Type 0 where
  pub message : Message
  pub decoded : IsDecodedAs answer (Ok message)
  pub number : ℕ
  pub told : refusal_told message.body ≡ Some number
  pub is : IsRefusedBy number message.sender line

-- there is no answer, or one that refuses none
abbrev pub RefusesNone : List ℕ → Type 0
RefusesNone answer =
    (answer ≡ [])
    ⊎ ((message : Message) × IsDecodedAs answer (Ok message)
    × (refusal_told message.body ≡ None))

-- this is the line that tells who refused, if an answer refuses
abbrev pub IsRefusalIn : List ℕ → Option (String Global) → Type 0
IsRefusalIn answer None = RefusesNone answer
IsRefusalIn answer (Some line) = RefusesBy answer (string_bytes line)

-- why it isn't told whether an answer refuses: it is no message, or memory ran out
abbrev pub IsUntold : List ℕ → Fault → Type 0
IsUntold answer fault =
    (fault ≡ Input (Core Memory))
    ⊎ ((e : Refusal) × (fault ≡ Input (Core e)) × IsRefusalOf answer e)

-- how that is told, and with which status
abbrev pub TellsRefusal : Result (Option (String Global)) Fault → Traffic → ℕ → Type 0
TellsRefusal (Ok None) told status = IsUntouched told × (status ≡ 0)
TellsRefusal (Ok (Some line)) told status = TellsNotes (string_bytes line) told × (status ≡ 1)
TellsRefusal (Err fault) told status = Tells fault told × (status ≡ fault_status fault)

-- it is told of this answer
abbrev pub TellsOfAnswer : List ℕ → Traffic → ℕ → Type 0
TellsOfAnswer answer told status =
    (refusal : Result (Option (String Global)) Fault)
    × MatchResult refusal (IsRefusalIn answer) (IsUntold answer)
    × TellsRefusal refusal told status

-- ---- how it ends

-- the line of the answer is given out, or there is no memory for it
abbrev pub GivesAnswer : List ℕ → Traffic → Traffic → ℕ → Type 0
GivesAnswer answer output told status =
    GivesOut (answer_line answer) false output told status
    ⊎ GivesUp (Input (Core Memory)) output told status

-- that wasn't done; or it was, and behind it is told whether the answer refuses
abbrev pub EndsAnswer : List ℕ → Traffic → Traffic → ℕ → Type 0
EndsAnswer answer output told status =
    (GivesAnswer answer output told status × (status ≢ 0))
    ⊎ ((tells : Stream)
    × GivesAnswer answer output (record { before = told.before; after = tells }) 0
    × TellsOfAnswer answer (record { before = tells; after = told.after }) status)

-- an answer came, and that is given out; or another status was told, or that the receiver has no
-- URL, and nothing was written; or the URL is none, and nothing was read or written; or it gave up
abbrev pub EndsSend : Traffic → Traffic → Traffic → ℕ → Type 0
EndsSend input output told status =
    ((answer : List ℕ) × EndsAnswer answer output told status)
    ⊎ ((IsUntouched output × (status ≡ 1))
    ⊎ ((IsUntouched input × IsUntouched output × (status ≡ 2))
    ⊎ ((fault : Fault) × GivesUpCaused fault output told status)))
