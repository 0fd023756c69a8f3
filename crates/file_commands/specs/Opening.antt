-- A controller that is loaded of its keeper.
use Rattle.std.specs.Prelude.{◌≡◌, ℕ, Bool, false, true, List, Ok}
use Rattle.json_profile.specs.ReadAs.{IsReadAs, IsRefusalOf}
use Rattle.streams.specs.declared.refused.Refused.TheVariants.{Core, LoadFailed}
use Rattle.streams.specs.declared.fault.Fault.{Fault}
use Rattle.streams.specs.declared.fault.Fault.TheVariants.{Device}
use Rattle.stored_state.specs.Held.{HoldsSame, KeptState}
use Rattle.stored_state.specs.declared.any_controller.AnyController.{AnyController}
use Rattle.stored_state.specs.Opened.{any_state_read}

-- the controller stands beside the keeper that held its state, in the same place, and holds it on
pub record IsLoaded {K : Type 0} (is_honest : K → Bool) (held place : K → List ℕ) (keep : K)
    (opened : KeptState AnyController K) : Type 0 where
  pub shown : is_honest keep ≡ true
      → IsReadAs any_state_read (held keep) (Ok opened.controller)
  pub same : HoldsSame is_honest held keep opened.keep
  pub honest : is_honest opened.keep ≡ is_honest keep
  pub placed : place opened.keep ≡ place keep
  pub fresh : opened.stale ≡ false

-- the controller is the one whose state a keeper held
abbrev pub IsHeldBy : {K : Type 0} → (K → Bool) → (K → List ℕ) → K → AnyController → Type 0
IsHeldBy is_honest held keep c = is_honest keep ≡ true → IsReadAs any_state_read (held keep) (Ok c)

-- why no controller is loaded: the load failed, or what is held is refused, or memory ran out
abbrev pub IsNotLoaded : {K : Type 0} → (K → Bool) → (K → List ℕ) → (K → K → Type 0) → K → Fault
    → Type 0
IsNotLoaded {K = K} is_honest held load_fails keep (Device LoadFailed) =
    (after : K) × load_fails keep after
IsNotLoaded is_honest held load_fails keep (Device (Core e)) =
    is_honest keep ≡ true → IsRefusalOf any_state_read (held keep) e
IsNotLoaded is_honest held load_fails keep _ = ⊥
