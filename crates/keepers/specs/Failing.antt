-- A keeper of which one call fails, for tests: what it holds, which call fails, and what is left.
use Rattle.std.specs.Prelude.{◌≡◌, ◌+◌, ◌-◌, ◌^◌, ◌==◌, ℕ, Bool, true, false, List, ⊤}
use Rattle.std.specs.Prelude.{Result, Ok, Err, if◌then◌else◌, min}
use Rattle.std.specs.Global.{Vec}
use Rattle.keepers.specs.declared.keep_fault.KeepFault.{KeepFault}
use Rattle.keepers.specs.declared.keep_fault.KeepFault.TheVariants.{Failed, Memory}

-- what is held, the calls so far up to 2^64 - 1, the number of the call that fails, whether a save
-- that fails leaves the new value, and how many calls failed
pub record FailingView : Type 0 where
  pub held : List ℕ
  pub calls : ℕ
  pub k : ℕ
  pub leaves_new : Bool
  pub count : ℕ

-- whether the next call is the one that fails
abbrev pub is_due : FailingView → Bool
is_due f = f.calls + 1 == f.k

-- the keeper after a call that didn't fail
abbrev pub after_call : FailingView → FailingView
after_call f = record f { calls = min (f.calls + 1) (2 ^ 64 - 1) }

-- the keeper after the call that fails
abbrev pub after_failure : FailingView → FailingView
after_failure f = record f { calls = f.calls + 1; count = f.count + 1 }

-- what a save that fails leaves held
abbrev pub left_by_failure : FailingView → List ℕ → List ℕ
left_by_failure f bytes = if f.leaves_new then bytes else f.held

-- a load that fails: it was due
abbrev pub LoadFails : FailingView → FailingView → Type 0
LoadFails old new = (is_due old ≡ true) × (new ≡ after_failure old)

-- a save of bytes that fails: it was due
abbrev pub SaveFails : FailingView → List ℕ → FailingView → Type 0
SaveFails old bytes new =
    (is_due old ≡ true) × (new ≡ record (after_failure old) { held = left_by_failure old bytes })

-- a load: only the call that is due fails, and one that is refused memory changes nothing
abbrev pub LoadsOrFails : FailingView → FailingView → Result (Vec ℕ) KeepFault → Type 0
LoadsOrFails old new (Ok v) = (is_due old ≡ false) × (v.items ≡ old.held) × (new ≡ after_call old)
LoadsOrFails old new (Err Failed) = LoadFails old new
LoadsOrFails old new (Err Memory) = (is_due old ≡ false) × (new ≡ old)

-- a save of bytes: only the call that is due fails, and one that is refused memory changes nothing
abbrev pub SavesOrFails : FailingView → List ℕ → FailingView → Result ⊤ KeepFault → Type 0
SavesOrFails old bytes new (Ok done) =
    (is_due old ≡ false) × (new ≡ record (after_call old) { held = bytes })
SavesOrFails old bytes new (Err Failed) = SaveFails old bytes new
SavesOrFails old bytes new (Err Memory) = new ≡ old
