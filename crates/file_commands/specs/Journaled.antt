-- The lines of steps that `order` and `take` save.
use Rattle.std.specs.Prelude.{◌≡◌, ◌⊎◌, ℕ, Bool, List, Option, Some, Result, Ok}
use Rattle.ticket_items.specs.declared.refusal.Refusal.{Refusal}
use Rattle.ticket_items.specs.declared.refusal.Refusal.TheVariants.{Memory}
use Rattle.jdf_words.specs.declared.kept_call.KeptCall.{KeptCall}
use Rattle.jdf_words.specs.declared.kept_call.KeptCall.TheVariants.{Order, Take}
use Rattle.controller.specs.declared.message.Message.{Message}
use Rattle.world_items.specs.declared.reply.Reply.{Reply}
use Rattle.jmf_message.specs.Decoded.{IsDecodedAs}
use Rattle.json_profile.specs.ReadAs.{IsReadAs}
use Rattle.journal.specs.Journal.{IsJournaled, IsLeft}
use Rattle.journal.specs.Line.{told_line}
use Rattle.journal.specs.What.{message_word, order_named}
use Rattle.keepers.specs.InFile.{InFile}
use Rattle.keepers.specs.OnDisk.{OnDisk}
use Rattle.stored_state.specs.Addressee.{name_of}
use Rattle.stored_state.specs.AnyStep.{IsHanded, IsOrdered}
use Rattle.stored_state.specs.Held.{KeptState}
use Rattle.stored_state.specs.declared.any_controller.AnyController.{AnyController}
use Rattle.streams.specs.declared.fault.Fault.{Fault}
use Rattle.streams.specs.declared.fault.Fault.TheVariants.{Input}
use Rattle.streams.specs.declared.refused.Refused.TheVariants.{Core}
use Rattle.streams.specs.Streams.{IsInput, Traffic}
use Rattle.file_commands.specs.Files.{file_bytes, is_honest, keep_in_file, place}
use Rattle.file_commands.specs.Commands.{GivesHeld, Steps}
use Rattle.file_commands.specs.Step.{step_lines}

-- the line of a step at the controller of a name, at a time, by the order that the bytes are, which
-- this one typed, if that is known
pub record IsOrderLine (by : Option (List ℕ)) (name : List ℕ) (at : ℕ) (bytes : List ℕ)
    (reply : Reply) (line : List ℕ) : Type 0 where
  pub what : List ℕ
  pub named : IsReadAs order_named bytes (Ok what)
  pub is : line ≡ told_line by name reply at what

-- the same by the message that the bytes are, of its sender
pub record IsMessageLine (name : List ℕ) (at : ℕ) (bytes : List ℕ) (reply : Reply)
    (line : List ℕ) : Type 0 where
  pub message : Message
  pub decoded : IsDecodedAs bytes (Ok message)
  pub is : line ≡ told_line (Some message.sender) name reply at (message_word message.body)

-- the step that the input is, of the controller that was held, is saved; and what it replied stands
-- in the journal, unless that is a refusal
pub record StepJournaled {J : Type 0} (held_by : J → List ℕ) (is_missed : J → Bool) (IsStep : Steps)
    (IsLine : List ℕ → List ℕ → Reply → List ℕ → Type 0) (keep : InFile OnDisk) (input : Traffic)
    (reply : Result Reply Refusal) (sent : Option (List ℕ)) (old new : J) : Type 0 where
  pub bytes : List ℕ
  pub is_input : IsInput input bytes
  pub after : KeptState AnyController (InFile OnDisk)
  pub gives : GivesHeld is_honest file_bytes place IsStep bytes keep after reply sent
  pub lines : IsJournaled held_by is_missed (IsLine (name_of after.controller) bytes) reply old new

-- the same of an order, whoever typed it
abbrev pub OrderJournaled : {J : Type 0} → (J → List ℕ) → (J → Bool) → ℕ → InFile OnDisk → Traffic
    → Result Reply Refusal → Option (List ℕ) → J → J → Type 0
OrderJournaled held_by is_missed at keep input reply sent old new =
    (by : Option (List ℕ))
    × StepJournaled held_by is_missed (IsOrdered at) (λ name bytes. IsOrderLine by name at bytes)
    keep input reply sent old new

-- the same of a message
abbrev pub MessageJournaled : {J : Type 0} → (J → List ℕ) → (J → Bool) → ℕ → InFile OnDisk → Traffic
    → Result Reply Refusal → Option (List ℕ) → J → J → Type 0
MessageJournaled held_by is_missed at keep input reply sent old new =
    StepJournaled held_by is_missed (IsHanded at) (λ name bytes. IsMessageLine name at bytes)
    keep input reply sent old new

-- what a call on the controller in a file leaves in a journal, where it writes this text: `order` and
-- `take` the line of the step whose lines they write, and every other call nothing
abbrev pub JournalsInFile : {J : Type 0} → (J → List ℕ) → (J → Bool) → List ℕ → KeptCall → Traffic
    → List ℕ → J → J → Type 0
JournalsInFile held_by is_missed file (Order at) input text old new =
    (reply : Result Reply Refusal) × (sent : Option (List ℕ))
    × OrderJournaled held_by is_missed at (keep_in_file file) input reply sent old new
    × (text ≡ step_lines reply sent)
JournalsInFile held_by is_missed file (Take at) input text old new =
    (reply : Result Reply Refusal) × (sent : Option (List ℕ))
    × MessageJournaled held_by is_missed at (keep_in_file file) input reply sent old new
    × (text ≡ step_lines reply sent)
JournalsInFile held_by is_missed file call input text old new = IsLeft held_by is_missed old new

-- where it gives up it leaves nothing there, unless memory ran out
abbrev pub JournalsNone : {J : Type 0} → (J → List ℕ) → (J → Bool) → J → J → Fault → Type 0
JournalsNone held_by is_missed old new fault =
    IsLeft held_by is_missed old new ⊎ (fault ≡ Input (Core Memory))
