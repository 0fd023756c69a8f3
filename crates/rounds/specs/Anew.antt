-- All that comes to the controller in a cell, whose text may be another's at each try.
use Rattle.std.specs.Prelude.{◌≡◌, ⊤, ℕ, true, List, [], ◌∷◌, Option, Result}
use Rattle.keepers.specs.Keeper.{CountRose}
use Rattle.ticket_items.specs.declared.refusal.Refusal.{Refusal}
use Rattle.stored_state.specs.TakingAll.{TakesAll, TakesEach}
use Rattle.stored_state.specs.Addressee.{is_addressed}
use Rattle.stored_state.specs.Step.{TextStep}
use Rattle.stored_state.specs.declared.addressee.Addressee.{Addressee}
use Rattle.stored_state.specs.declared.any_controller.AnyController.{AnyController}
use Rattle.stored_state.specs.declared.coming.Coming.{Coming}
use Rattle.stored_state.specs.declared.coming.Coming.TheVariants as comings
use Rattle.stored_state.specs.declared.taken_bytes.TakenBytes.{TakenBytes}
use Rattle.streams.specs.declared.refused.Refused.{Refused}
use Rattle.streams.specs.declared.refused.Refused.TheVariants.{Core, LoadFailed, OtherName, SaveFailed}

-- the second says what the first does
abbrev pub IsCopy : Coming → Coming → Type 0
IsCopy (comings.Message m) (comings.Message copied) = copied ≡ m
IsCopy (comings.Order text) (comings.Order copied) = copied.items ≡ text.items
IsCopy (comings.Neither why) (comings.Neither copied) = copied ≡ why
IsCopy x copied = ⊥

-- each does, in turn
abbrev pub AreCopies : List Coming → List Coming → Type 0
AreCopies [] [] = ⊤
AreCopies (x ∷ all) (copied ∷ more) = IsCopy x copied × AreCopies all more
AreCopies all copied = ⊥

-- what each is given, and the controller as it was saved, if it was
abbrev pub Given : Type 0
Given = List (Result TakenBytes Refusal) × Option AnyController

-- all this came at a time to the controller that is read of the first text, which is one that is
-- addressed; this was given out of it, and the second is the text of the state behind the last, or
-- the first where no step was made
abbrev pub TakesText : Addressee → ℕ → List Coming → List ℕ → List ℕ → Given → Type 0
TakesText to at all old new given =
    TakesAll (λ text. true) (λ text. text) to at all given.0 given.1 old new

-- so it came to the controller of some text
abbrev pub IsTaken : Addressee → ℕ → List Coming → Given → Type 0
IsTaken to at all given = (old : List ℕ) × (new : List ℕ) × TakesText to at all old new given

-- all this came at a time to a controller that is addressed
pub record ComesTo (to : Addressee) (at : ℕ) (all : List Coming) : Type 0 where
  pub before : AnyController
  pub addressed : is_addressed to before ≡ true
  pub steps : List (Result (TextStep AnyController) Refusal)
  pub last : AnyController
  pub each : TakesEach at all before steps last

-- why nothing is given out: the text isn't loaded, and that is counted; it is refused, or that of
-- another controller; or the text behind the last isn't known to be saved, and that is counted
abbrev pub CellTakesNone : Addressee → ℕ → List Coming → (old new : ℕ) → Refused → Type 0
CellTakesNone to at all old new (Core e) = ⊤
CellTakesNone to at all old new LoadFailed = CountRose old new
CellTakesNone to at all old new OtherName = ⊤
CellTakesNone to at all old new SaveFailed = ComesTo to at all × CountRose old new
CellTakesNone to at all old new other = ⊥
