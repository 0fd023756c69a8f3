-- A cell in memory that follows a script.
use Rattle.std.specs.Prelude.{◌≡◌, ◌⊎◌, ℕ, List, [], ◌∷◌, Contains, Some}
use Rattle.cells.specs.Chain.{Swap, Version, View}
use Rattle.cells.specs.declared.deed.Deed.{Deed}
use Rattle.cells.specs.declared.deed.Deed.TheVariants.{Answer, Interrupt, Land, Mute, Lose, Delay}

-- the values that it ever held, the newest first; the swaps that were delayed; and what it makes of
-- the next calls
pub record ScriptedView : Type 0 where
  pub chain : List Version
  pub delayed : List Swap
  pub script : List Deed

-- the script has another's swap of these bytes, over whatever is held
abbrev pub Interrupts : List Deed → Swap → Type 0
Interrupts [] s = ⊥
Interrupts (Interrupt bytes ∷ script) s = (s.bytes ≡ Some bytes.items) ⊎ Interrupts script s
Interrupts (Answer ∷ script) s = Interrupts script s
Interrupts (Land ∷ script) s = Interrupts script s
Interrupts (Mute ∷ script) s = Interrupts script s
Interrupts (Lose ∷ script) s = Interrupts script s
Interrupts (Delay ∷ script) s = Interrupts script s

-- the next of the script, an answer where it is over
abbrev pub TakesDeed : List Deed → Deed → List Deed → Type 0
TakesDeed [] next new = (next ≡ Answer) × (new ≡ [])
TakesDeed (deed ∷ script) next new = (next ≡ deed) × (new ≡ script)

abbrev pub view_of : ScriptedView → View
view_of cell = record {
  chain = cell.chain;
  may_land = λ s. Contains cell.delayed s ⊎ Interrupts cell.script s;
}
