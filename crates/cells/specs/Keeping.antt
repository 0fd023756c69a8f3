-- A holder of a cell: what it read or made last, and what it asks then.
use Rattle.std.specs.Prelude.{ℕ, List, Bool, true, false, ◌&&◌, not, Option, Some, None, is_some}
use Rattle.cells.specs.Chain.{Swap, Version}
use Rattle.cells.specs.declared.swapped.SwapResult.{SwapResult}
use Rattle.cells.specs.declared.swapped.SwapResult.TheVariants.{Made, Other, Unknown}

-- what it has, as it was read or made; open where a swap of it was sent whose answer didn't come
pub record Holding : Type 0 where
  pub has : Option Version
  pub is_open : Bool

-- it has nothing
abbrev pub new_holding : Holding
new_holding = record { has = None; is_open = false }

-- it has this, and no swap of it is open
abbrev pub has_read : Version → Holding
has_read v = record { has = Some v; is_open = false }

-- the swap of a value by these bytes, and the touch of it
abbrev pub swap_of : Version → List ℕ → Swap
swap_of v bytes = record { over = v.revision; bytes = Some bytes }

abbrev pub touch_of : Version → Swap
touch_of v = record { over = v.revision; bytes = None }

-- whether it may swap, and whether it may touch
abbrev pub can_swap : Holding → Bool
can_swap holding = is_some holding.has && not holding.is_open

abbrev pub can_touch : Holding → Bool
can_touch holding = is_some holding.has && holding.is_open

-- it once a swap by these bytes was answered
abbrev pub after_swap : SwapResult → List ℕ → Holding → Holding
after_swap (Made revision) bytes holding = record {
  has = Some (record { revision = revision; bytes = bytes });
  is_open = holding.is_open;
}
after_swap Other bytes holding = record holding { has = None }
after_swap Unknown bytes holding = record holding { is_open = true }

-- it once a touch was answered
abbrev pub after_touch : SwapResult → Holding → Holding
after_touch (Made revision) holding = new_holding
after_touch Other holding = new_holding
after_touch Unknown holding = holding
