-- Why a command on a cell gives up.
use Rattle.std.proofs.Common.{◌≡◌, ◌⊎◌, inl, inr, ⊎_elim, ℕ, List, refl, sym, subst, ◌∙◌, ap}
use Rattle.std.specs.Prelude.{Option, None}
use Rattle.ticket_items.specs.declared.refusal.Refusal.TheVariants.{Memory}
use Rattle.streams.specs.Ends.{IsUnread}
use Rattle.streams.specs.Streams.{IsInput, Traffic}
use Rattle.streams.specs.declared.refused.Refused.TheVariants.{Core, LoadFailed, ReadFailed}
use Rattle.streams.specs.declared.fault.Fault.{Fault}
use Rattle.streams.specs.declared.fault.Fault.TheVariants.{Device, Input}
use Rattle.file_commands.specs.Opening.{IsNotLoaded}
use Rattle.cell_commands.specs.Calls.{is_held, text_held}
use Rattle.cell_commands.specs.Faults.{DoesNone, DoesNoneOf, IsNotTold, IsUnloaded, IsUnsaved, IsUnseen, IsUnstepped, out_of_memory}
use Rattle.cell_commands.specs.Steps.{IsNoStep, Refuses}
use Rattle.cell_commands.specs.declared.cell_fault.CellFault.{CellFault}
use Rattle.cell_commands.specs.declared.cell_fault.CellFault.TheVariants.{Call, Unread}

-- nothing was loaded
pub unloaded_unseen : (e : CellFault) → IsUnloaded e → IsUnseen e
unloaded_unseen e why = ⊎_elim (λ is. subst IsUnseen (sym is) (inl refl)) (λ is. subst IsUnseen (sym is) (inr refl)) why

-- what is held is none's state
held_unseen : (keep : List ℕ) (fault : Fault) → IsNotLoaded is_held text_held (λ _ _. ⊥) keep fault → IsUnseen (Call fault)
held_unseen keep (Device LoadFailed) why = absurd why.1
held_unseen keep (Device (Core e)) why = (keep, why refl)
held_unseen keep fault why = absurd why

pub fault_unseen : (keep : List ℕ) (fault : Fault) (e : CellFault) → e ≡ Call fault → IsNotLoaded is_held text_held (λ _ _. ⊥) keep fault → IsUnseen e
fault_unseen keep fault e is why = subst IsUnseen (sym is) (held_unseen keep fault why)

-- the same, or memory ran out
pub fault_untold : (keep : List ℕ) (fault : Fault) (e : CellFault) → e ≡ Call fault → IsNotLoaded is_held text_held (λ _ _. ⊥) keep fault ⊎ (fault ≡ Input (Core Memory)) → IsUnseen e ⊎ (e ≡ out_of_memory)
fault_untold keep fault e is why =
    ⊎_elim (λ none. inl (fault_unseen keep fault e is none)) (λ memory. inr (subst (λ f. e ≡ Call f) memory is)) why

-- no step was given
pub fault_undone : (IsRefused : Refuses) (bytes held : List ℕ) (fault : Fault) (e : CellFault) → e ≡ Call fault → IsNoStep IsRefused bytes held fault → DoesNoneOf IsRefused bytes e
fault_undone IsRefused bytes held fault e is why = inr (held, fault, why, is)

pub memory_undone : (IsRefused : Refuses) (bytes : List ℕ) (e : CellFault) → e ≡ out_of_memory → DoesNoneOf IsRefused bytes e
memory_undone IsRefused bytes e is = inl (inl (inr is))

pub memory_none : (IsRefused : Refuses) (input : Traffic) (bytes : List ℕ) (fault : Fault) (e : CellFault) → IsInput input bytes → e ≡ Call fault → fault ≡ Input (Core Memory) → DoesNone IsRefused input e
memory_none IsRefused input bytes fault e is_input is memory = inr (inr (bytes, is_input, memory_undone IsRefused bytes e (is ∙ ap Call memory)))

-- the input wasn't read
pub unread_none : (IsRefused : Refuses) (input : Traffic) (fault : Fault) (e : CellFault) → e ≡ Call fault → IsUnread input fault → DoesNone IsRefused input e
unread_none IsRefused input fault e is why = inr (inl (fault, why, is))

-- nothing is told
pub untold_moment : (at : Option ℕ) (fault : Fault) (e : CellFault) → e ≡ Call fault → (at ≡ None) × (fault ≡ Device ReadFailed) → IsNotTold at e
untold_moment at fault e is why = inr (inr (why.0, is ∙ ap Call why.1))

pub untold_look : (at : Option ℕ) (e : CellFault) → IsUnseen e ⊎ (e ≡ out_of_memory) → IsNotTold at e
untold_look at e why = ⊎_elim (λ none. inl none) (λ memory. inr (inl memory)) why
