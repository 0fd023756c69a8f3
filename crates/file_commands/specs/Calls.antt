-- Why a call on the controller in a file gives nothing out. Nothing is known of what stands in
-- files, so that of a file no keeper is honest.
use Rattle.std.specs.Prelude.{◌≡◌, ◌⊎◌, ℕ, List, Option, None}
use Rattle.ticket_items.specs.declared.refusal.Refusal.{Refusal}
use Rattle.ticket_items.specs.declared.refusal.Refusal.TheVariants.{Memory}
use Rattle.stored_state.specs.declared.any_controller.AnyController.{AnyController}
use Rattle.streams.specs.Ends.{IsUnread}
use Rattle.streams.specs.Streams.{IsInput, IsUntouched, Traffic}
use Rattle.streams.specs.declared.refused.Refused.TheVariants.{Core, LoadFailed, ReadFailed}
use Rattle.streams.specs.declared.fault.Fault.{Fault}
use Rattle.streams.specs.declared.fault.Fault.TheVariants.{Device, Input}
use Rattle.file_commands.specs.Commands.{DoesNoStep, Steps}
pub use Rattle.file_commands.specs.Files.{count, file_bytes, is_honest, keep_in_file}
pub use Rattle.file_commands.specs.Files.{place, load_fails, save_fails, IsNotOpened}

-- why nothing is given out of the step that the bytes are, of the controller in a file: that can't
-- be locked, or it does none
abbrev pub DoesNoneOf : (List ℕ → AnyController → Refusal → Type 0) → Steps → List ℕ → List ℕ
    → Fault → Type 0
DoesNoneOf Refuses IsStep file bytes fault =
    (fault ≡ Device LoadFailed)
    ⊎ DoesNoStep is_honest file_bytes place count load_fails save_fails Refuses IsStep bytes
    (keep_in_file file) fault

-- the same of the input: there is no controller in the file, and nothing is read; or the input
-- isn't read; or it is, and nothing is given out
abbrev pub DoesNone : (List ℕ → AnyController → Refusal → Type 0) → Steps → List ℕ → Traffic → Fault
    → Type 0
DoesNone Refuses IsStep file input fault =
    (IsUntouched input × IsNotOpened file fault)
    ⊎ (IsUnread input fault
    ⊎ ((bytes : List ℕ) × IsInput input bytes × DoesNoneOf Refuses IsStep file bytes fault))

-- why nothing is told of a file: there is no controller at hand of it, or memory ran out
abbrev pub IsNotListed : List ℕ → Fault → Type 0
IsNotListed file fault = IsNotOpened file fault ⊎ (fault ≡ Input (Core Memory))

-- the same, or no moment is named and the clock tells none
abbrev pub IsNotSeen : List ℕ → Option ℕ → Fault → Type 0
IsNotSeen file at fault = IsNotListed file fault ⊎ ((at ≡ None) × (fault ≡ Device ReadFailed))
