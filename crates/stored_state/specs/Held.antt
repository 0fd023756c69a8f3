-- A controller beside the keeper of its state: what is shown, what is held, and what a call that
-- gives nothing out leaves.
use Rattle.std.specs.Prelude.{◌≡◌, ◌⊎◌, ℕ, Bool, false, true, List, Result}
use Rattle.std.specs.Prelude.{⊤, Ok}
use Rattle.serde_json.specs.Data.{Data}
use Rattle.keepers.specs.Keeper.{CountRose}
pub use Rattle.json_profile.specs.ReadAs.{IsReadAs, IsRefusalOf}
use Rattle.ticket_items.specs.declared.refusal.Refusal.{Refusal}
use Rattle.ticket_items.specs.declared.refusal.Refusal.TheVariants.{Memory}
use Rattle.streams.specs.declared.refused.Refused.{Refused}
use Rattle.streams.specs.declared.refused.Refused.TheVariants.{Core, LoadFailed, SaveFailed}
use Rattle.streams.specs.declared.refused.Refused.TheVariants.{Stale}

-- a controller beside its keeper; stale where another state may be held than is shown
pub record KeptState (C K : Type 0) : Type 0 where
  pub controller : C
  pub keep : K
  pub stale : Bool

-- ---- what bytes are read as

-- why nothing was loaded of a keeper that is honest or not and holds these bytes: a load failed,
-- or a refusal, which is one of the bytes if it is honest
abbrev pub IsNotLoaded : {A : Type 0} → (Data → Result A Refusal) → Bool → List ℕ → Refused → Type 0
IsNotLoaded reads honest held (Core e) = honest ≡ true → IsRefusalOf reads held e
IsNotLoaded reads honest held LoadFailed = ⊤
IsNotLoaded reads honest held other = ⊥

-- ---- what a save leaves

-- an honest keeper holds what it held
abbrev pub HoldsSame : {K : Type 0} → (K → Bool) → (K → List ℕ) → K → K → Type 0
HoldsSame is_honest held old new = is_honest old ≡ true → held new ≡ held old

-- bytes that are held are those that were, or are read as a controller
abbrev pub HoldsOldOrNext : {C : Type 0} → (Data → Result C Refusal) → List ℕ → C → List ℕ → Type 0
HoldsOldOrNext state_read old next held = (held ≡ old) ⊎ IsReadAs state_read held (Ok next)

-- a save of a text failed, in a way in which the keeper may: an honest one holds what it held, or
-- the text
pub record FailsToSave {K : Type 0} (is_honest : K → Bool) (held : K → List ℕ) (count : K → ℕ)
    (save_fails : K → List ℕ → K → Type 0) (text : List ℕ) (old new : K) : Type 0 where
  pub either : is_honest old ≡ true → (held new ≡ held old) ⊎ (held new ≡ text)
  pub fails : save_fails old text new
  pub failures : CountRose (count old) (count new)

-- why a text is not saved, and what that leaves: memory ran out, or a save failed
abbrev pub IsNotSaved : {K : Type 0} → (K → Bool) → (K → List ℕ) → (K → ℕ)
    → (K → List ℕ → K → Type 0) → List ℕ → K → K → Refused → Type 0
IsNotSaved is_honest held count save_fails text old new (Core e) =
    (e ≡ Memory) × HoldsSame is_honest held old new
IsNotSaved is_honest held count save_fails text old new SaveFailed =
    FailsToSave is_honest held count save_fails text old new
IsNotSaved is_honest held count save_fails text old new other = ⊥

-- why a step gives nothing out, and what that leaves. While it is stale none is tried. `Refuses`
-- tells the refusals that change nothing, `IsText` the text of the state that was to be saved.
-- Where memory ran out once the step was done, or the save failed, it is stale from then on
abbrev pub GivesNothing : {C K : Type 0} → (K → Bool) → (K → List ℕ) → (K → ℕ)
    → (K → List ℕ → K → Type 0) → (Refusal → Type 0) → (List ℕ → Type 0)
    → KeptState C K → KeptState C K → Refused → Type 0
GivesNothing is_honest held count save_fails Refuses IsText old new (Core e) =
    (old.stale ≡ false)
    × ((Refuses e × (new ≡ old))
    ⊎ ((e ≡ Memory) × (new.stale ≡ true) × ((text : List ℕ) × IsText text)
    × HoldsSame is_honest held old.keep new.keep))
GivesNothing is_honest held count save_fails Refuses IsText old new SaveFailed =
    (old.stale ≡ false) × (new.stale ≡ true)
    × ((text : List ℕ) × IsText text
    × FailsToSave is_honest held count save_fails text old.keep new.keep)
GivesNothing is_honest held count save_fails Refuses IsText old new Stale =
    (old.stale ≡ true) × (new ≡ old)
GivesNothing is_honest held count save_fails Refuses IsText old new other = ⊥

-- what it shows where nothing is given out: the controller before the step, or the one after it
abbrev pub ShowsEither : {C K : Type 0} → KeptState C K → (C → Type 0) → KeptState C K → Type 0
ShowsEither old IsAfter new = (new.controller ≡ old.controller) ⊎ IsAfter new.controller
