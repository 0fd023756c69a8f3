-- What a call on the controller that a cell keeps leaves in a journal.
use Rattle.std.specs.Prelude.{◌≡◌, ◌⊎◌, ℕ, Bool, false, List, [], Option, Result}
use Rattle.ticket_items.specs.declared.refusal.Refusal.{Refusal}
use Rattle.jdf_words.specs.declared.kept_call.KeptCall.{KeptCall}
use Rattle.jdf_words.specs.declared.kept_call.KeptCall.TheVariants.{Order, Take}
use Rattle.journal.specs.Journal.{IsLeft}
use Rattle.stored_state.specs.AnyStep.{IsHanded, IsOrdered}
use Rattle.streams.specs.Streams.{Traffic}
use Rattle.world_items.specs.declared.reply.Reply.{Reply}
use Rattle.document_commands.specs.Caused.{GivesUpCaused}
use Rattle.file_commands.specs.Journaled.{IsMessageLine, IsOrderLine}
use Rattle.file_commands.specs.Notes.{GivesOutNoting}
use Rattle.file_commands.specs.Step.{step_lines}
use Rattle.cell_commands.specs.Faults.{fault_in, out_of_memory}
use Rattle.cell_commands.specs.Given.{GivesLine}
use Rattle.cell_commands.specs.declared.cell_fault.CellFault.{CellFault}

-- where it writes this text, and this one typed it, if that is known: `order` and `take` leave the
-- line of the step whose lines they write, and every other call nothing
abbrev pub JournalsInCell : {J : Type 0} → (J → List ℕ) → (J → Bool) → Option (List ℕ) → KeptCall
    → Traffic → List ℕ → J → J → Type 0
JournalsInCell held_by is_missed by (Order at) input text old new =
    (reply : Result Reply Refusal) × (sent : Option (List ℕ))
    × GivesLine (IsOrdered at) false [] [] input reply sent held_by is_missed
    (λ name bytes. IsOrderLine by name at bytes) old new
    × (text ≡ step_lines reply sent)
JournalsInCell held_by is_missed by (Take at) input text old new =
    (reply : Result Reply Refusal) × (sent : Option (List ℕ))
    × GivesLine (IsHanded at) false [] [] input reply sent held_by is_missed
    (λ name bytes. IsMessageLine name at bytes) old new
    × (text ≡ step_lines reply sent)
JournalsInCell held_by is_missed by call input text old new = IsLeft held_by is_missed old new

-- where it gives up it leaves nothing there, unless memory ran out
abbrev pub JournalsNone : {J : Type 0} → (J → List ℕ) → (J → Bool) → J → J → CellFault → Type 0
JournalsNone held_by is_missed old new e = IsLeft held_by is_missed old new ⊎ (e ≡ out_of_memory)

-- a call on the controller that etcd keeps leaves in a journal what its output tells; where it gives
-- up, nothing, unless memory ran out
abbrev pub EndsJournaled : {J : Type 0} → (J → List ℕ) → (J → Bool) → KeptCall → Traffic → Traffic
    → Traffic → ℕ → J → J → Type 0
EndsJournaled held_by is_missed call input output told status old new =
    ((text : List ℕ) × (refused : Bool) × (notes : List ℕ) × (by : Option (List ℕ))
    × JournalsInCell held_by is_missed by call input text old new
    × GivesOutNoting text refused notes output told status)
    ⊎ ((e : CellFault) × JournalsNone held_by is_missed old new e
    × GivesUpCaused (fault_in e) output told status)
