-- The faults: what is told of each, and the exit status that it leaves.
use Rattle.std.specs.Prelude.{ℕ, List}
use Rattle.ticket_items.specs.declared.refusal.Refusal.{Refusal}
use Rattle.ticket_items.specs.declared.refusal.Refusal.TheVariants.{Memory}
use Rattle.streams.specs.Refused.{refused_line}
use Rattle.streams.specs.declared.refused.Refused.{Refused}
use Rattle.streams.specs.declared.refused.Refused.TheVariants.{Core}
use Rattle.streams.specs.declared.fault.Fault.{Fault}
use Rattle.streams.specs.declared.fault.Fault.TheVariants.{Input, Device}

-- 1 where memory ran out, and this status for any other refusal
abbrev pub core_status : ℕ → Refusal → ℕ
core_status status Memory = 1
core_status status _ = status

abbrev pub refused_status : ℕ → Refused → ℕ
refused_status status (Core e) = core_status status e
refused_status status _ = status

-- 1 where memory ran out, else 3 for what was given, and 4 for what the program stands on
abbrev pub fault_status : Fault → ℕ
fault_status (Input e) = refused_status 3 e
fault_status (Device e) = refused_status 4 e

-- the line that tells a fault
abbrev pub fault_line : Fault → List ℕ
fault_line (Input e) = refused_line e
fault_line (Device e) = refused_line e
