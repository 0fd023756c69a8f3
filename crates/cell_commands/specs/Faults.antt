-- Why a command on the controller that a cell keeps gives up.
use Rattle.std.specs.Prelude.{◌≡◌, ◌⊎◌, ℕ, List, Option, None, ⊤}
use Rattle.json_profile.specs.ReadAs.{IsRefusalOf}
use Rattle.ticket_items.specs.declared.refusal.Refusal.TheVariants.{Memory}
use Rattle.stored_state.specs.Opened.{any_state_read}
use Rattle.streams.specs.Ends.{IsUnread}
use Rattle.streams.specs.Streams.{IsInput, IsUntouched, Traffic}
use Rattle.streams.specs.declared.refused.Refused.TheVariants.{Core, LoadFailed, ReadFailed}
use Rattle.streams.specs.declared.refused.Refused.TheVariants.{SaveFailed}
use Rattle.streams.specs.declared.fault.Fault.{Fault}
use Rattle.streams.specs.declared.fault.Fault.TheVariants.{Device, Input}
use Rattle.cell_commands.specs.Steps.{IsNoStep, Refuses}
use Rattle.cell_commands.specs.declared.cell_fault.CellFault.{CellFault}
use Rattle.cell_commands.specs.declared.cell_fault.CellFault.TheVariants.{Call, Unread, Taken}
use Rattle.cell_commands.specs.declared.cell_fault.CellFault.TheVariants.{Unanswered, Overtaken}
use Rattle.cell_commands.specs.declared.cell_fault.CellFault.TheVariants.{TooLarge}

-- the fault that it is told as
abbrev pub fault_in : CellFault → Fault
fault_in (Call fault) = fault
fault_in Unread = Device LoadFailed
fault_in Taken = Device SaveFailed
fault_in Unanswered = Device SaveFailed
fault_in Overtaken = Device SaveFailed
fault_in TooLarge = Device SaveFailed

-- memory ran out
abbrev pub out_of_memory : CellFault
out_of_memory = Call (Input (Core Memory))

-- nothing was loaded
abbrev pub IsUnloaded : CellFault → Type 0
IsUnloaded e = (e ≡ Unread) ⊎ (e ≡ out_of_memory)

-- nothing was saved, or it isn't known
abbrev pub IsUnsaved : CellFault → Type 0
IsUnsaved Unanswered = ⊤
IsUnsaved Overtaken = ⊤
IsUnsaved TooLarge = ⊤
IsUnsaved e = e ≡ out_of_memory

-- no controller was loaded: nothing was, or what is held is none's state
abbrev pub IsUnseen : CellFault → Type 0
IsUnseen (Call (Device (Core e))) = (held : List ℕ) × IsRefusalOf any_state_read held e
IsUnseen e = IsUnloaded e

-- no step was made anew and saved
abbrev pub IsUnstepped : CellFault → Type 0
IsUnstepped e = IsUnloaded e ⊎ IsUnsaved e

-- why nothing is given out of the step that the bytes are
abbrev pub DoesNoneOf : Refuses → List ℕ → CellFault → Type 0
DoesNoneOf IsRefused bytes e =
    IsUnstepped e
    ⊎ ((held : List ℕ) × (fault : Fault) × IsNoStep IsRefused bytes held fault × (e ≡ Call fault))

-- the same of the input: no controller is there, and nothing is read; or the input isn't read; or
-- it is, and nothing is given out
abbrev pub DoesNone : Refuses → Traffic → CellFault → Type 0
DoesNone IsRefused input e =
    (IsUntouched input × IsUnseen e)
    ⊎ (((fault : Fault) × IsUnread input fault × (e ≡ Call fault))
    ⊎ ((bytes : List ℕ) × IsInput input bytes × DoesNoneOf IsRefused bytes e))

-- why nothing is told of the controller: none was loaded, or memory ran out, or no moment is named
-- and the clock tells none
abbrev pub IsNotTold : Option ℕ → CellFault → Type 0
IsNotTold at e =
    IsUnseen e ⊎ ((e ≡ out_of_memory) ⊎ ((at ≡ None) × (e ≡ Call (Device ReadFailed))))
