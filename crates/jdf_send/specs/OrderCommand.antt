-- How `order` with `--send` ends.
use Rattle.std.specs.Prelude.{◌≡◌, ◌≢◌, ◌⊎◌, ◌≤◌, ℕ, Bool, true, List, Option, Some, None}
use Rattle.std.specs.Prelude.{Result, Ok}
use Rattle.std.specs.Borrow.{Bor}
use Rattle.ticket_items.specs.declared.refusal.Refusal.{Refusal}
use Rattle.ticket_items.specs.declared.refusal.Refusal.TheVariants.{Memory}
use Rattle.world_items.specs.declared.reply.Reply.{Reply}
use Rattle.controller.specs.declared.message.Message.{Message}
use Rattle.jmf_message.specs.Decoded.{IsDecodedAs}
use Rattle.keepers.specs.InFile.{InFile}
use Rattle.keepers.specs.OnDisk.{OnDisk}
use Rattle.journal.specs.Journal.{IsJournaled, IsLeft}
use Rattle.stored_state.specs.Addressee.{name_of}
use Rattle.stored_state.specs.AnyStep.{IsHanded, IsNoOrder, IsOrdered}
use Rattle.stored_state.specs.Held.{KeptState}
use Rattle.stored_state.specs.declared.any_controller.AnyController.{AnyController}
use Rattle.streams.specs.Ends.{GivesOut, GivesUp}
use Rattle.streams.specs.Streams.{IsUntouched, Stream, Traffic}
use Rattle.streams.specs.declared.fault.Fault.{Fault}
use Rattle.streams.specs.declared.fault.Fault.TheVariants.{Input}
use Rattle.streams.specs.declared.refused.Refused.TheVariants.{Core}
use Rattle.jdf_send.specs.SendCommand.{IsNoPlace}
use Rattle.jdf_send.specs.declared.order_command.run.OrderResult.{OrderResult}
use Rattle.jdf_send.specs.declared.order_command.run.OrderResult.TheVariants.{Answered}
use Rattle.file_commands.specs.Calls.{DoesNone}
use Rattle.keepers.specs.SystemFile.{file_bytes, is_honest, keep_in_file, place}
use Rattle.document_commands.specs.Caused.{EndsWithCaused, GivesUpCaused}
use Rattle.file_commands.specs.Answers.{IsOfAnswer}
use Rattle.file_commands.specs.Commands.{GivesHeld, GivesNoting, GivesStepOf}
use Rattle.file_commands.specs.Journaled.{IsMessageLine, JournalsNone, OrderJournaled}
use Rattle.file_commands.specs.Notes.{GivesOutNoting, notes_of_order}
use Rattle.file_commands.specs.Step.{is_refused, reply_line, step_lines}

-- an end: what was written and told until then, and the exit status
abbrev pub Ending : Type 1
Ending = Traffic → Traffic → ℕ → Type 0

-- one end behind another, which had status 0
abbrev pub Behind : Ending → Ending → Ending
Behind First Second output told status =
    (written tells : Stream)
    × First (record { before = output.before; after = written })
    (record { before = told.before; after = tells }) 0
    × Second (record { before = written; after = output.after })
    (record { before = tells; after = told.after }) status

-- the line of the reply is given out, or there is no memory for it
abbrev pub GivesLine : Result Reply Refusal → Ending
GivesLine reply output told status =
    GivesOut (reply_line reply) (is_refused reply) output told status
    ⊎ GivesUp (Input (Core Memory)) output told status

-- the controller in the file has taken the answer, and that is written
pub record TakesAnswer (file : Bor (List ℕ)) (at : ℕ) (answer text : List ℕ) (refused : Bool)
    : Type 0 where
  pub reply : Result Reply Refusal
  pub sent : Option (List ℕ)
  pub after : KeptState AnyController (InFile OnDisk)
  pub given : GivesHeld is_honest file_bytes place (IsHanded at) answer (keep_in_file file.now) after reply sent
  pub message : Message
  pub decoded : IsDecodedAs answer (Ok message)
  pub written : IsOfAnswer message reply sent text refused

-- the same of some answer
abbrev pub IsOfSome : Bor (List ℕ) → ℕ → List ℕ → Bool → Type 0
IsOfSome file at text refused = (answer : List ℕ) × TakesAnswer file at answer text refused

-- the same of what came of a message
abbrev pub IsCome : Bor (List ℕ) → ℕ → OrderResult → Type 0
IsCome file at (Answered output) = IsOfSome file at output.text.items output.refused
IsCome file at came = Unit {0}

-- nothing came of a message that the controller in the file could take
abbrev pub IsUntaken : OrderResult → Type 0
IsUntaken (Answered output) = ⊥
IsUntaken came = Unit {0}

-- a message is sent on, and what is written of its answer is given out; or nothing is, and the
-- status isn't 0: where it gave up; or where another status than 200 came, no message with that, or
-- its receiver has no URL, which is told
abbrev pub SendsOn : Bor (List ℕ) → ℕ → Ending
SendsOn file at output told status =
    EndsWithCaused (IsOfSome file at) (λ _. Unit {0}) output told status
    ⊎ (IsUntouched output × (status ≡ 1))

-- the line of the reply is given out; and where that was done and nothing was refused, the message
-- is sent on, and what comes of that is given out behind it
abbrev pub GivesOn : Bor (List ℕ) → ℕ → Result Reply Refusal → Ending
GivesOn file at reply output told status =
    (GivesLine reply output told status × (status ≢ 0))
    ⊎ Behind (GivesLine reply) (SendsOn file at) output told status

-- the line of the reply is given out, and this is noted; or there is no memory for it
abbrev pub GivesNoted : Result Reply Refusal → List ℕ → Ending
GivesNoted reply notes output told status =
    GivesOutNoting (step_lines reply None) (is_refused reply) notes output told status
    ⊎ GivesUp (Input (Core Memory)) output told status

-- what an order gives out that has this noted: its message is sent on, if one goes out
abbrev pub GivesOrder : Bor (List ℕ) → ℕ → Result Reply Refusal → Option (List ℕ) → List ℕ → Ending
GivesOrder file at reply None notes output told status = GivesNoted reply notes output told status
GivesOrder file at reply (Some message) notes output told status =
    GivesOn file at reply output told status

-- the order's step is saved, and given out so
abbrev pub OrdersAndSends : Bor (List ℕ) → ℕ → Traffic → Ending
OrdersAndSends file at input output told status =
    (reply : Result Reply Refusal) × (sent : Option (List ℕ)) × (notes : List ℕ)
    × GivesNoting
    (λ after. GivesStepOf is_honest file_bytes place (IsOrdered at) (keep_in_file file.now) input after reply
    sent)
    (notes_of_order reply) notes
    × GivesOrder file at reply sent notes output told status

-- the text is no URL to send to, or that isn't known, and nothing is read or written
abbrev pub IsNowhere : List ℕ → Traffic → Ending
IsNowhere url input output told status =
    IsUntouched input
    × ((IsUntouched output × (status ≡ 2))
    ⊎ ((fault : Fault) × IsNoPlace url fault × GivesUpCaused fault output told status))

-- the order is given, or it isn't, for this
abbrev pub Orders : Bor (List ℕ) → ℕ → List ℕ → Traffic → Ending
Orders file at url input output told status =
    OrdersAndSends file at input output told status
    ⊎ (((fault : Fault) × DoesNone IsNoOrder (IsOrdered at) file.now input fault
    × GivesUpCaused fault output told status)
    ⊎ IsNowhere url input output told status)

-- the same, and the status is that of `order`, `send` or `take`
pub record EndsSendOrder (file : Bor (List ℕ)) (at : ℕ) (url : List ℕ) (input output told : Traffic)
    (status : ℕ) : Type 0 where
  pub given : Orders file at url input output told status
  pub known : status ≤ 4

-- ---- what stands in a journal

-- the controller in the file has taken the answer, and the line of that step stands in a journal,
-- unless the controller refused it
pub record TakingJournaled {J : Type 0} (held_by : J → List ℕ) (is_missed : J → Bool)
    (file : Bor (List ℕ)) (at : ℕ) (answer : List ℕ) (old new : J) : Type 0 where
  pub reply : Result Reply Refusal
  pub sent : Option (List ℕ)
  pub after : KeptState AnyController (InFile OnDisk)
  pub given : GivesHeld is_honest file_bytes place (IsHanded at) answer (keep_in_file file.now) after reply sent
  pub lines :
      IsJournaled held_by is_missed (IsMessageLine (name_of after.controller) at answer) reply old new

-- the same of some answer; or nothing, where none was taken
abbrev pub SomeJournaled : {J : Type 0} → (J → List ℕ) → (J → Bool) → Bor (List ℕ) → ℕ → J → J
    → Type 0
SomeJournaled held_by is_missed file at old new =
    IsLeft held_by is_missed old new
    ⊎ ((answer : List ℕ) × TakingJournaled held_by is_missed file at answer old new)

-- the line of the order's step, and behind it, where the journal is honest then, that of the answer's
pub record OrderAndAnswerJournaled {J : Type 0} (is_honest : J → Bool) (held_by : J → List ℕ)
    (is_missed : J → Bool) (file : Bor (List ℕ)) (at : ℕ) (input : Traffic)
    (reply : Result Reply Refusal) (sent : Option (List ℕ)) (old new : J) : Type 0 where
  pub between : J
  pub order : OrderJournaled held_by is_missed at (keep_in_file file.now) input reply sent old between
  pub answer : is_honest between ≡ true → SomeJournaled held_by is_missed file at between new

-- the lines of the steps that are given out so; and where the order is given to none, or it isn't
-- known where to send, nothing, unless memory ran out
abbrev pub EndsJournaled : {J : Type 0} → (J → Bool) → (J → List ℕ) → (J → Bool) → Bor (List ℕ) → ℕ
    → List ℕ → Traffic → Traffic → Traffic → ℕ → J → J → Type 0
EndsJournaled is_honest held_by is_missed file at url input output told status old new =
    ((reply : Result Reply Refusal) × (sent : Option (List ℕ)) × (notes : List ℕ)
    × OrderAndAnswerJournaled is_honest held_by is_missed file at input reply sent old new
    × GivesOrder file at reply sent notes output told status)
    ⊎ (((fault : Fault) × JournalsNone held_by is_missed old new fault
    × GivesUpCaused fault output told status)
    ⊎ (IsLeft held_by is_missed old new × IsNowhere url input output told status))
