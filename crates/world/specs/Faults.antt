-- What a step and an event at seats are refused for.
use Rattle.std.specs.Prelude.{◌≡◌, ◌⊎◌}
use Rattle.ticket_items.specs.declared.refusal.Refusal.TheVariants.{Memory}
use Rattle.streams.specs.declared.refused.Refused.{Refused}
use Rattle.streams.specs.declared.refused.Refused.TheVariants.{Core}

-- what a text is lost for, or want of memory
abbrev pub IsLoss : (Refused → Type 0) → Refused → Type 0
IsLoss Loses e = Loses e ⊎ (e ≡ Core Memory)

-- what the seat refuses, or such
abbrev pub IsStepFault : (Refused → Type 0) → (Refused → Type 0) → Refused → Type 0
IsStepFault Refuses Loses e = Refuses e ⊎ IsLoss Loses e

-- what the master's seat or a worker's refuses, or such
abbrev pub IsEventFault : (Refused → Type 0) → (Refused → Type 0) → (Refused → Type 0) → Refused
    → Type 0
IsEventFault MasterRefuses WorkerRefuses Loses e =
    (MasterRefuses e ⊎ WorkerRefuses e) ⊎ IsLoss Loses e
