-- The line of a refusal with what it comes from behind it.
use Rattle.std.specs.Prelude.{◌≡◌, ◌⊎◌, ◌++◌, ◌∷◌, ◌==◌, ℕ, Bool, List, [], Option, Some, None, codes, not}
use Rattle.std.specs.Prelude.{decimal, true}
use Rattle.std.specs.List.{list_any}
use Rattle.streams.specs.Ends.{GivesOut}
use Rattle.streams.specs.Fault.{fault_line, fault_status}
use Rattle.streams.specs.Refused.{name_of, number_of}
use Rattle.streams.specs.Streams.{IsUntouched, Traffic}
use Rattle.streams.specs.declared.fault.Fault.{Fault}
use Rattle.streams.specs.declared.fault.Fault.TheVariants.{Device, Input}
use Rattle.streams.specs.declared.refused.Refused.{Refused}
use Rattle.document_commands.specs.Told.{TellsText}

-- whether words stand on one line
abbrev pub is_one_line : List ℕ → Bool
is_one_line words = not (list_any (λ c. c == 10) words)

-- the refusal of a fault
abbrev pub refused_in : Fault → Refused
refused_in (Input e) = e
refused_in (Device e) = e

-- the line of a refusal with `: ` and a cause before its end
abbrev pub line_with : Refused → List ℕ → List ℕ
line_with refused cause =
    codes "Refused " ++ decimal (number_of refused) ++ codes " " ++ name_of refused ++ codes ": "
    ++ cause ++ 10 ∷ []

-- the line of a fault, with its cause where that is known
abbrev pub caused_line : Fault → Option (List ℕ) → List ℕ
caused_line fault None = fault_line fault
caused_line fault (Some cause) = line_with (refused_in fault) cause

-- the line with some cause, in which no line ends
abbrev pub IsCausedLine : Fault → List ℕ → Type 0
IsCausedLine fault line =
    (cause : List ℕ) × (is_one_line cause ≡ true) × (line ≡ caused_line fault (Some cause))

-- the fault's line is told, or with some cause, or a front of that where a write failed
abbrev pub TellsCaused : Fault → Traffic → Type 0
TellsCaused fault told =
    (line : List ℕ) × ((line ≡ caused_line fault None) ⊎ IsCausedLine fault line)
    × TellsText line told

-- nothing is written, the fault is told so, and the status is the fault's
abbrev pub GivesUpCaused : Fault → Traffic → Traffic → ℕ → Type 0
GivesUpCaused fault output told status =
    IsUntouched output × TellsCaused fault told × (status ≡ fault_status fault)

-- such an output is given out, or it is given up for such a fault
abbrev pub EndsWithCaused : (List ℕ → Bool → Type 0) → (Fault → Type 0) → Traffic → Traffic → ℕ → Type 0
EndsWithCaused IsOutput IsFault output told status =
    ((text : List ℕ) × (refused : Bool) × IsOutput text refused
    × GivesOut text refused output told status)
    ⊎ ((fault : Fault) × IsFault fault × GivesUpCaused fault output told status)
