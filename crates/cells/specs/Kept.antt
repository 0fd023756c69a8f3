-- A keeper over a cell: what its calls leave.
use Rattle.std.specs.Prelude.{◌≡◌, ◌⊎◌, ◌<◌, ◌≤◌, ◌++◌, ◌∷◌, ℕ, List, Bool, true, false}
use Rattle.std.specs.Prelude.{Option, Some, IfSome, ◌&&◌, not, bytes_eq, ⊤}
use Rattle.std.specs.Option.{option_map_or}
use Rattle.keepers.specs.Crash.{IsWithin}
use Rattle.cells.specs.Calls.{IsMade, IsNot}
use Rattle.cells.specs.Chain.{Swap, Version, View, newest}
use Rattle.cells.specs.Keeping.{Holding, has_read, swap_of, touch_of}
use Rattle.cells.specs.declared.swapped.SwapResult.{SwapResult}
use Rattle.cells.specs.declared.swapped.SwapResult.TheVariants.{Made, Other, Unknown}

-- the cell and what is known of it, whether the last save was a conflict, and how many calls failed
pub record CellKeepView (C : Type 0) : Type 0 where
  pub cell : C
  pub holding : Holding
  pub is_conflict : Bool
  pub count : ℕ

-- whether these bytes are what it has, and no swap of it is open
abbrev pub holds : Holding → List ℕ → Bool
holds holding bytes =
    option_map_or (λ v. bytes_eq v.bytes bytes) holding.has false && not holding.is_open

-- the swap by these bytes, and the touch, of what it has
abbrev pub IsOfSave : Holding → List ℕ → Swap → Type 0
IsOfSave holding bytes s =
    (v : Version) × (holding.has ≡ Some v) × ((s ≡ swap_of v bytes) ⊎ (s ≡ touch_of v))

abbrev pub IsOfLoad : Holding → Swap → Type 0
IsOfLoad holding s = (v : Version) × (holding.has ≡ Some v) × (s ≡ touch_of v)

-- no swap of it is open any more: what was sent over the revision that it had can't be made, as a
-- later one is held
pub record IsSettled (holding : Holding) (old new : View) : Type 0 where
  pub sent : IsWithin new.may_land old.may_land
  pub past : holding.is_open ≡ true → IfSome holding.has
      (λ v. v.revision ≤ (newest old.chain).revision → v.revision < (newest new.chain).revision)

-- it had a value that these bytes replaced, by one swap, which is what is held
abbrev pub IsSwapped : Holding → List ℕ → View → View → Type 0
IsSwapped holding bytes old new =
    (v : Version) × (holding.has ≡ Some v) × ((revision : ℕ) × IsMade old (swap_of v bytes) new revision)

-- what the answer to a save by these bytes tells, and what it has then: they were swapped; or
-- another came first, and they never will be
abbrev pub SavesAs : Holding → List ℕ → View → View → Holding → SwapResult → Type 0
SavesAs holding bytes old new after (Made revision) =
    IsSwapped holding bytes old new × (after ≡ has_read (newest new.chain))
SavesAs holding bytes old new after Other =
    IfSome holding.has (λ v. IsNot old (swap_of v bytes) new)
SavesAs holding bytes old new after Unknown = ⊤

-- the values held at one time are among those held later
abbrev pub IsPartOf : List Version → List Version → Type 0
IsPartOf old new = (added : List Version) × (new ≡ added ++ old)

-- a step was made, and gave this: of the value that was held at some moment meanwhile, which it
-- left as it is, or into the next one, which is held
pub record IsStepped {G : Type 0} (makes : List ℕ → List ℕ → G → Type 0) (old new : List Version)
    (given : G) : Type 0 where
  pub chain : List Version
  pub since : IsPartOf old chain
  pub bytes : List ℕ
  pub makes_it : makes (newest chain).bytes bytes given
  pub leaves : ((bytes ≡ (newest chain).bytes) × IsPartOf chain new)
      ⊎ ((v : Version) × (v.bytes ≡ bytes) × (new ≡ v ∷ chain))
