-- A controller in its beginning, beside the keeper that holds its state.
use Rattle.std.specs.Prelude.{◌≡◌, ◌⊎◌, ℕ, Bool, false, true, List, Ok}
use Rattle.json_profile.specs.ReadAs.{IsReadAs, IsRefusalOf}
use Rattle.streams.specs.declared.refused.Refused.TheVariants.{Core, OtherName, SaveFailed}
use Rattle.ticket_items.specs.declared.refusal.Refusal.TheVariants.{Memory}
use Rattle.streams.specs.declared.fault.Fault.{Fault}
use Rattle.streams.specs.declared.fault.Fault.TheVariants.{Input, Device}
use Rattle.controller_form.specs.Openings.OpeningForm.{opening_read}
use Rattle.controller_form.specs.declared.openings.opening.Opening.{Opening}
use Rattle.controller_form.specs.declared.openings.opening.Opening.TheVariants as opening
use Rattle.stored_state.specs.Addressee.{is_addressed}
use Rattle.stored_state.specs.Held.{KeptState}
use Rattle.stored_state.specs.declared.addressee.Addressee.{Addressee}
use Rattle.stored_state.specs.declared.any_controller.AnyController.{AnyController}
use Rattle.stored_state.specs.declared.any_controller.AnyController.TheVariants.{Master as of_master}
use Rattle.stored_state.specs.declared.any_controller.AnyController.TheVariants.{Worker as of_worker}
use Rattle.stored_state.specs.AnyStep.{text_of}

-- the controller of an opening
abbrev pub controller_of : Opening → AnyController
controller_of (opening.Master m) = of_master m
controller_of (opening.Worker w) = of_worker w

-- a new controller stands beside its keeper, in the same place, which holds its state if it is
-- honest
pub record IsBegun {C K : Type 0} (is_honest : K → Bool) (held place : K → List ℕ)
    (state_text : C → List ℕ) (keep : K) (controller : C) (kept : KeptState C K) : Type 0 where
  pub shown : kept.controller ≡ controller
  pub holds : is_honest kept.keep ≡ true → held kept.keep ≡ state_text controller
  pub honest : is_honest kept.keep ≡ is_honest keep
  pub placed : place kept.keep ≡ place keep
  pub fresh : kept.stale ≡ false

-- the controller that the bytes begin is this, and is one that is addressed
pub record IsBeginning (to : Addressee) (bytes : List ℕ) (controller : AnyController) : Type 0 where
  pub opening : Opening
  pub read : IsReadAs opening_read bytes (Ok opening)
  pub is : controller ≡ controller_of opening
  pub addressed : is_addressed to controller ≡ true

-- why they begin none: what they are refused for, or that another is addressed
abbrev pub IsNoBeginning : Addressee → List ℕ → Fault → Type 0
IsNoBeginning to bytes (Input (Core e)) = IsRefusalOf opening_read bytes e
IsNoBeginning to bytes (Input OtherName) =
    (opening : Opening) × IsReadAs opening_read bytes (Ok opening)
    × (is_addressed to (controller_of opening) ≡ false)
IsNoBeginning to bytes fault = ⊥

-- the controller that the bytes begin stands so beside its keeper
pub record IsBegunAs {K : Type 0} (is_honest : K → Bool) (held place : K → List ℕ) (keep : K)
    (to : Addressee) (bytes : List ℕ) (kept : KeptState AnyController K) : Type 0 where
  pub controller : AnyController
  pub beginning : IsBeginning to bytes controller
  pub begun : IsBegun is_honest held place text_of keep controller kept

-- why a new controller isn't kept, by the text of its state: memory ran out, or the save failed
abbrev pub IsNotKept : {K : Type 0} → (K → List ℕ → K → Type 0) → K → List ℕ → Fault → Type 0
IsNotKept {K = K} save_fails keep text (Device SaveFailed) =
    (after : K) × save_fails keep text after
IsNotKept save_fails keep text fault = fault ≡ Input (Core Memory)

-- why no controller is begun: the bytes begin none, or it isn't kept
abbrev pub IsNotBegun : {K : Type 0} → (K → List ℕ → K → Type 0) → K → Addressee → List ℕ → Fault
    → Type 0
IsNotBegun save_fails keep to bytes fault =
    IsNoBeginning to bytes fault
    ⊎ ((controller : AnyController) × IsBeginning to bytes controller
    × IsNotKept save_fails keep (text_of controller) fault)
