-- How a command ends: what it read, wrote and told, and its exit status. What it writes for an
-- input, and why it refuses one, are the command's own.
use Rattle.std.specs.Prelude.{◌≡◌, ◌⊎◌, ℕ, ◌<◌, Bool, List, length, if◌then◌else◌}
use Rattle.ticket_items.specs.declared.refusal.Refusal.{Refusal}
use Rattle.ticket_items.specs.declared.refusal.Refusal.TheVariants.{Memory}
use Rattle.streams.specs.declared.refused.Refused.TheVariants.{Core, TooLarge, ReadFailed}
use Rattle.streams.specs.declared.refused.Refused.TheVariants.{WriteFailed}
use Rattle.streams.specs.Fault.{fault_line, fault_status}
use Rattle.streams.specs.Streams.{HasFailedReading, IsInput, IsUntouched, Reads, Traffic}
use Rattle.streams.specs.Streams.{Writes, WritesFront}
use Rattle.streams.specs.declared.input.TheConstants.{MAX_INPUT_BYTES}
use Rattle.streams.specs.declared.fault.Fault.{Fault}
use Rattle.streams.specs.declared.fault.Fault.TheVariants.{Input, Device}

-- what is written for an input, and whether something that was asked for was refused
abbrev pub Outputs : Type 1
Outputs = List ℕ → List ℕ → Bool → Type 0

-- why an input is refused
abbrev pub Refusals : Type 1
Refusals = List ℕ → Refusal → Type 0

-- the exit status where the output was written: 1 where something was refused
abbrev pub done_status : Bool → ℕ
done_status refused = if refused then 1 else 0

-- more was read than may be
abbrev pub IsTooLarge : Traffic → Type 0
IsTooLarge input = (bytes : List ℕ) × Reads input bytes × (MAX_INPUT_BYTES < length bytes)

-- memory ran out, and no read failed
abbrev pub IsOutOfMemory : Traffic → Refusal → Type 0
IsOutOfMemory input e = (e ≡ Memory) × (input.after.failures ≡ input.before.failures)

-- why the input isn't read
abbrev pub IsUnread : Traffic → Fault → Type 0
IsUnread input (Input (Core e)) = IsOutOfMemory input e
IsUnread input (Input TooLarge) = IsTooLarge input
IsUnread input (Device ReadFailed) = HasFailedReading input
IsUnread input _ = ⊥

-- memory ran out, or the input is refused for what it is
abbrev pub IsRefused : Refusals → Traffic → Refusal → Type 0
IsRefused IsRefusalOf input e =
    IsOutOfMemory input e ⊎ ((bytes : List ℕ) × IsInput input bytes × IsRefusalOf bytes e)

-- what is written for the input that was read, and whether something was refused
abbrev pub IsOutputOf : Outputs → Traffic → List ℕ → Bool → Type 0
IsOutputOf IsOutput input text refused =
    (bytes : List ℕ) × IsInput input bytes × IsOutput bytes text refused

-- why nothing is written for an input: it isn't read, or it is refused
abbrev pub IsFaultOf : Refusals → Traffic → Fault → Type 0
IsFaultOf IsRefusalOf input (Input (Core e)) = IsRefused IsRefusalOf input e
IsFaultOf IsRefusalOf input (Input TooLarge) = IsTooLarge input
IsFaultOf IsRefusalOf input (Device ReadFailed) = HasFailedReading input
IsFaultOf IsRefusalOf input _ = ⊥

-- the fault's line was told, or a front of it where a write failed
abbrev pub Tells : Fault → Traffic → Type 0
Tells fault told = Writes told (fault_line fault) ⊎ WritesFront told (fault_line fault)

-- nothing is written, the fault is told, and the status is the fault's
abbrev pub GivesUp : Fault → Traffic → Traffic → ℕ → Type 0
GivesUp fault output told status =
    IsUntouched output × Tells fault told × (status ≡ fault_status fault)

-- the text is written and nothing told; or a write failed behind a front of it, and that is told
abbrev pub GivesOut : List ℕ → Bool → Traffic → Traffic → ℕ → Type 0
GivesOut text refused output told status =
    (Writes output text × IsUntouched told × (status ≡ done_status refused))
    ⊎ (WritesFront output text × Tells (Device WriteFailed) told
    × (status ≡ fault_status (Device WriteFailed)))

-- such an output is given out, or it is given up for such a fault
abbrev pub EndsWith : (List ℕ → Bool → Type 0) → (Fault → Type 0) → Traffic → Traffic → ℕ → Type 0
EndsWith IsOutput IsFault output told status =
    ((text : List ℕ) × (refused : Bool) × IsOutput text refused
    × GivesOut text refused output told status)
    ⊎ ((fault : Fault) × IsFault fault × GivesUp fault output told status)

-- a command that makes its output of its whole input ends with that output, or with why there is
-- none
abbrev pub Ends : Outputs → Refusals → Traffic → Traffic → Traffic → ℕ → Type 0
Ends IsOutput IsRefusalOf input output told status =
    EndsWith (IsOutputOf IsOutput input) (IsFaultOf IsRefusalOf input) output told status
