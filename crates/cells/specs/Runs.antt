-- Many holders of one cell, whose calls come in any order.
use Rattle.std.specs.Prelude.{◌≡◌, ◌⊎◌, ◌<◌, ◌==◌, ◌∷◌, [], ℕ, List, Option, Some, None, if◌then◌else◌}
use Rattle.std.specs.Prelude.{option_map, ⊤}
use Rattle.cells.specs.Calls.{Sends}
use Rattle.cells.specs.Chain.{Swap, Version, View, newest}
use Rattle.cells.specs.Keeping.{Holding, can_swap, can_touch, swap_of, touch_of}
use Rattle.cells.specs.declared.act.Act.{Act}
use Rattle.cells.specs.declared.act.Act.TheVariants.{Read, Swap as Swaps, Touch}
use Rattle.cells.specs.declared.call.Call.{Call}

-- ---- one call

-- what a holder asks of the cell by a call
abbrev pub swap_by_call : Act → Holding → Option Swap
swap_by_call Read holding = None
swap_by_call (Swaps bytes) holding =
    if can_swap holding then option_map (λ v. swap_of v bytes.items) holding.has else None
swap_by_call Touch holding = if can_touch holding then option_map touch_of holding.has else None

-- a call of a holder: it asks that of the cell, and what it has then it had, or is what is held
pub record Acts (act : Act) (old new : Holding) (before after : View) : Type 0 where
  pub sends : Sends before (λ s. swap_by_call act old ≡ Some s) after
  pub has : (new.has ≡ None) ⊎ ((new.has ≡ old.has) ⊎ (new.has ≡ Some (newest after.chain)))

-- ---- many calls

-- a call that was made: whose, what, and what the holder has from then on
pub record DoneCall : Type 0 where
  pub holder : ℕ
  pub act : Act
  pub has : Option Version

-- the calls that were made, the newest first, behind those that were made before
abbrev pub history_after : List DoneCall → List Call → List (Option Version) → List DoneCall
history_after before [] told = before
history_after before (call ∷ calls) [] = before
history_after before (call ∷ calls) (has ∷ told) =
    history_after (record { holder = call.holder; act = call.act; has = has } ∷ before) calls told

abbrev pub history_of : List Call → List (Option Version) → List DoneCall
history_of calls told = history_after [] calls told

-- what a holder had after these calls
abbrev pub version_of : List DoneCall → ℕ → Option Version
version_of [] holder = None
version_of (done ∷ before) holder = if done.holder == holder then done.has else version_of before holder

-- the bytes that a call leaves in place of a value that it swaps; a read swaps none
abbrev pub Leaves : Act → Version → Version → Type 0
Leaves Read a b = ⊥
Leaves (Swaps bytes) a b = b.bytes ≡ bytes.items
Leaves Touch a b = b.bytes ≡ a.bytes

-- the second value is by a swap or a touch of a holder that had the first, as it was read or made
abbrev pub IsOfHolder : List DoneCall → Version → Version → Type 0
IsOfHolder [] a b = ⊥
IsOfHolder (done ∷ before) a b =
    ((version_of before done.holder ≡ Some a) × Leaves done.act a b × (a.revision < b.revision))
    ⊎ IsOfHolder before a b

-- each revision is later than the one before
abbrev pub IsRising : List Version → Type 0
IsRising [] = ⊤
IsRising (v ∷ before) = ((newest before).revision < v.revision) × IsRising before
