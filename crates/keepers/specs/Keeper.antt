-- Keepers of one value of bytes: what a call tells of the value that is held, and which calls fail.
use Rattle.std.specs.Prelude.{◌≡◌, ◌<◌, ◌≤◌, ◌⊎◌, ◌-◌, ◌^◌, ℕ, List, ⊤}
use Rattle.std.specs.Prelude.{Result, Ok, Err, IfOk, IsErrOf}
use Rattle.std.specs.Global.{Vec}
use Rattle.keepers.specs.declared.keep_fault.KeepFault.{KeepFault}
use Rattle.keepers.specs.declared.keep_fault.KeepFault.TheVariants.{Failed, Memory}

-- a load that succeeds gives what is held
abbrev pub Loads : List ℕ → Result (Vec ℕ) KeepFault → Type 0
Loads held result = IfOk result (λ v. v.items ≡ held)

-- after a save that succeeds the new value is held; after one that fails the old or the new; after
-- one that is refused memory the old
abbrev pub Saves : List ℕ → List ℕ → List ℕ → Result ⊤ KeepFault → Type 0
Saves old bytes new (Ok done) = new ≡ bytes
Saves old bytes new (Err Failed) = (new ≡ old) ⊎ (new ≡ bytes)
Saves old bytes new (Err Memory) = new ≡ old

-- the greatest number of failures that is told
abbrev pub most_failures : ℕ
most_failures = 2 ^ 64 - 1

-- the number of failures rose, unless it was the greatest
abbrev pub CountRose : ℕ → ℕ → Type 0
CountRose old new = (old < new) ⊎ (old ≡ most_failures)

-- the number of failures before and after a call: it doesn't fall; a call that fails raises it,
-- unless it is the greatest; once it is the greatest, each call fails
pub record CountsFailure {A : Type 0} (old new : ℕ) (result : Result A KeepFault) : Type 0 where
  pub kept : old ≤ new
  pub raised : IsErrOf result Failed → CountRose old new
  pub full : old ≡ most_failures → IsErrOf result Failed
