-- The calls of a cell: what its answers tell. Between any two, swaps that were sent may be made.
use Rattle.std.specs.Prelude.{◌≡◌, ◌≢◌, ◌⊎◌, ◌∷◌, ℕ, List, Result, IfOk}
use Rattle.keepers.specs.Crash.{IsWithin}
use Rattle.keepers.specs.declared.keep_fault.KeepFault.{KeepFault}
use Rattle.cells.specs.Chain.{Grows, IsMadeBy, Makes, Swap, Version, View, newest}
use Rattle.cells.specs.declared.swapped.SwapResult.{SwapResult}
use Rattle.cells.specs.declared.swapped.SwapResult.TheVariants.{Made, Other, Unknown}

-- from one view to a later one, where swaps of ours were sent meanwhile: each that was sent, then or
-- before, was made, or may be, or won't
pub record Sends (old : View) (is_ours : Swap → Type 0) (new : View) : Type 0 where
  pub grows : Grows (IsMadeBy (λ s. old.may_land s ⊎ is_ours s)) old.chain new.chain
  pub sent : IsWithin new.may_land (λ s. old.may_land s ⊎ is_ours s)

-- the same, where we sent none; and where we sent this one
abbrev pub Goes : View → View → Type 0
Goes old new = Sends old (λ s. ⊥) new

abbrev pub MayMake : View → Swap → View → Type 0
MayMake old s new = Sends old (λ other. other ≡ s) new

-- a read that is answered gives what is held
pub record Reads (old new : View) (result : Result Version KeepFault) : Type 0 where
  pub goes : Goes old new
  pub value : IfOk result (λ v. v ≡ newest new.chain)

-- this swap was made, once, and is what is held; it can't be made again
pub record IsMade (old : View) (s : Swap) (new : View) (revision : ℕ) : Type 0 where
  pub before : List Version
  pub landed : Grows (IsMadeBy old.may_land) old.chain before
  pub value : Version
  pub revision_is : value.revision ≡ revision
  pub is : new.chain ≡ value ∷ before
  pub makes : Makes s (newest before) value
  pub sent : IsWithin new.may_land old.may_land

-- another came first: this swap was not made, and the revision that it names is held no longer
pub record IsNot (old : View) (s : Swap) (new : View) : Type 0 where
  pub goes : Goes old new
  pub other : s.over ≢ (newest new.chain).revision

-- what the answer to a swap tells
abbrev pub Swaps : View → Swap → View → SwapResult → Type 0
Swaps old s new (Made revision) = IsMade old s new revision
Swaps old s new Other = IsNot old s new
Swaps old s new Unknown = MayMake old s new
