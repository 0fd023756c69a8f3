-- Who may change a node or a resource.
use Rattle.std.specs.Prelude.{ℕ, Bool, true, false, Option, Some, None}
use Rattle.ticket_items.specs.declared.refusal.Refusal.{Refusal}
use Rattle.ticket_items.specs.declared.refusal.Refusal.TheVariants.{NotHeld}
use Rattle.world_items.specs.declared.holder.Holder.{Holder}
use Rattle.world_items.specs.declared.holder.Holder.TheVariants.{Master, Spawn}

-- whether this holder is the master
abbrev pub is_masters : Holder → Bool
is_masters Master = true
is_masters (Spawn s) = false

-- the spawn that this holder is, if it isn't the master
abbrev pub as_spawn : Holder → Option ℕ
as_spawn Master = None
as_spawn (Spawn s) = Some s

-- why what a holder has can't be changed by the master, if it can't: a spawn has it
abbrev pub held_refusal : Holder → Option Refusal
held_refusal Master = None
held_refusal (Spawn s) = Some (NotHeld s)
