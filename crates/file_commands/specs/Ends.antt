-- How a call on the controller in a file ends. Nothing is known of what stands in files, so that of
-- a file no keeper is honest.
use Rattle.std.specs.Prelude.{◌≡◌, ◌⊎◌, ℕ, Bool, false, List, []}
use Rattle.document_commands.specs.Caused.{TellsCaused}
use Rattle.jdf_words.specs.declared.kept_call.KeptCall.{KeptCall}
use Rattle.jdf_words.specs.declared.kept_call.KeptCall.TheVariants.{List as Listing, New, Order}
use Rattle.jdf_words.specs.declared.kept_call.KeptCall.TheVariants.{Show, Take}
use Rattle.jmf_message.specs.Decoded.{IsRefusalOf}
use Rattle.keepers.specs.InFile.{InFile}
use Rattle.keepers.specs.OnDisk.{OnDisk}
use Rattle.keepers.specs.SystemFile.{file_bytes, is_honest, keep_in_file, keep_in_new_file, place}
use Rattle.keepers.specs.SystemFile.{save_fails}
use Rattle.stored_state.specs.AnyStep.{IsHanded, IsNoOrder, IsOrdered}
use Rattle.stored_state.specs.Held.{KeptState}
use Rattle.stored_state.specs.declared.addressee.Addressee.{Addressee}
use Rattle.stored_state.specs.declared.any_controller.AnyController.{AnyController}
use Rattle.streams.specs.Ends.{Tells}
use Rattle.streams.specs.Fault.{fault_status}
use Rattle.streams.specs.Streams.{IsUntouched, Traffic}
use Rattle.streams.specs.declared.fault.Fault.{Fault}
use Rattle.file_commands.specs.Calls.{DoesNone, IsNotSeen}
use Rattle.file_commands.specs.Commands.{Begins, BeginsNone, DoesStep, IsMoment, Shows}
use Rattle.file_commands.specs.Journaled.{JournalsInFile, JournalsNone}
use Rattle.file_commands.specs.Listing.{ListsAt}
use Rattle.file_commands.specs.Notes.{GivesOutNoting, no_notes, notes_of_order}

-- what a call on the controller in a file writes, whether something that was asked for was refused,
-- and what is noted
abbrev pub IsOutputInFile : List ℕ → KeptCall → Traffic → List ℕ → Bool → List ℕ → Type 0
IsOutputInFile file New input text refused notes =
    ((to : Addressee) × (after : KeptState AnyController (InFile OnDisk))
    × Begins is_honest file_bytes place false (keep_in_new_file file) to input after text refused)
    × (notes ≡ [])
IsOutputInFile file (Order at) input text refused notes =
    DoesStep is_honest file_bytes place (IsOrdered at) notes_of_order (keep_in_file file) input
    text refused notes
IsOutputInFile file (Take at) input text refused notes =
    DoesStep is_honest file_bytes place (IsHanded at) no_notes (keep_in_file file) input text
    refused notes
IsOutputInFile file (Show picture at) input text refused notes =
    IsUntouched input × (now : ℕ) × IsMoment at now
    × Shows picture now is_honest file_bytes place (keep_in_file file) text refused notes
IsOutputInFile file (Listing at is_open is_json) input text refused notes =
    IsUntouched input × (now : ℕ) × IsMoment at now
    × ListsAt (record { is_open = is_open; is_json = is_json; now = now }) file text refused notes

-- why it gives up
abbrev pub IsFaultInFile : List ℕ → KeptCall → Traffic → Fault → Type 0
IsFaultInFile file New input fault =
    (is_there : Bool) × (to : Addressee)
    × BeginsNone save_fails is_there (keep_in_new_file file) to input fault
IsFaultInFile file (Order at) input fault = DoesNone IsNoOrder (IsOrdered at) file input fault
IsFaultInFile file (Take at) input fault =
    DoesNone (λ bytes _. IsRefusalOf bytes) (IsHanded at) file input fault
IsFaultInFile file (Show picture at) input fault = IsUntouched input × IsNotSeen file at fault
IsFaultInFile file (Listing at is_open is_json) input fault =
    IsUntouched input × IsNotSeen file at fault

-- that is told, and by `list` with what it comes from
abbrev pub TellsInFile : KeptCall → Fault → Traffic → Type 0
TellsInFile (Listing at is_open is_json) fault told = TellsCaused fault told
TellsInFile call fault told = Tells fault told

-- nothing is written, the fault is told so, and the status is the fault's
abbrev pub GivesUpInFile : KeptCall → Fault → Traffic → Traffic → ℕ → Type 0
GivesUpInFile call fault output told status =
    IsUntouched output × TellsInFile call fault told × (status ≡ fault_status fault)

-- a call on the controller in a file ends with what it writes and notes, or with why it gives up
abbrev pub EndsInFile : List ℕ → KeptCall → Traffic → Traffic → Traffic → ℕ → Type 0
EndsInFile file call input output told status =
    ((text : List ℕ) × (refused : Bool) × (notes : List ℕ)
    × IsOutputInFile file call input text refused notes
    × GivesOutNoting text refused notes output told status)
    ⊎ ((fault : Fault) × IsFaultInFile file call input fault
    × GivesUpInFile call fault output told status)

-- such a call leaves in a journal what its output tells; where it gives up, nothing, unless memory
-- ran out
abbrev pub EndsJournaled : {J : Type 0} → (J → List ℕ) → (J → Bool) → List ℕ → KeptCall → Traffic
    → Traffic → Traffic → ℕ → J → J → Type 0
EndsJournaled held_by is_missed file call input output told status old new =
    ((text : List ℕ) × (refused : Bool) × (notes : List ℕ)
    × JournalsInFile held_by is_missed file call input text old new
    × GivesOutNoting text refused notes output told status)
    ⊎ ((fault : Fault) × JournalsNone held_by is_missed old new fault
    × GivesUpInFile call fault output told status)
