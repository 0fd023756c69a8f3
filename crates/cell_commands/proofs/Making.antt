-- A step of a text in memory.
use Rattle.std.proofs.Common.{◌≡◌, ◌⊎◌, inl, inr, ⊎_elim, ℕ, Bool, true, false, List, refl, sym, subst, ◌∙◌}
use Rattle.std.specs.Prelude.{Option, Result, Ok, Err, IfErr, IfOk, IsErrAnd}
use Rattle.json_profile.specs.ReadAs.{IsReadAs, IsRefusalOf}
use Rattle.std.proofs.lemmas.Bool.{true≢false}
use Rattle.ticket_items.specs.declared.refusal.Refusal.{Refusal}
use Rattle.ticket_items.specs.declared.refusal.Refusal.TheVariants.{Memory}
use Rattle.world_items.specs.declared.reply.Reply.{Reply}
use Rattle.stored_state.specs.AnyStep.{text_of}
use Rattle.stored_state.specs.Held.{GivesNothing, KeptState}
use Rattle.stored_state.specs.Opened.{any_state_read}
use Rattle.stored_state.specs.declared.any_controller.AnyController.{AnyController}
use Rattle.stored_state.specs.Step.{GivesStep}
use Rattle.streams.specs.declared.refused.Refused.{Refused}
use Rattle.streams.specs.declared.refused.Refused.TheVariants.{Core, LoadFailed, SaveFailed, Stale}
use Rattle.streams.specs.declared.fault.Fault.{Fault}
use Rattle.streams.specs.declared.fault.Fault.TheVariants.{Device, Input}
use Rattle.file_commands.specs.Commands.{Steps}
use Rattle.file_commands.specs.Opening.{IsLoaded, IsNotLoaded}
use Rattle.file_commands.specs.Step.{fault_of}
use Rattle.cell_commands.specs.Calls.{has_no_place, is_held, text_held}
use Rattle.cell_commands.specs.Steps.{IsNoStep, MakesStep, Refuses}

abbrev Opened : Type 0
Opened = KeptState AnyController (List ℕ)

-- a controller that was loaded made a step
pub made_step : (IsStep : Steps) (bytes held keep : List ℕ) (opened after : Opened) (reply : Result Reply Refusal) (sent : Option (List ℕ)) → keep ≡ held → IsLoaded is_held text_held has_no_place keep opened → GivesStep is_held text_held text_of (IsStep bytes opened.controller) after reply sent → MakesStep IsStep bytes held (text_of after.controller) reply sent after.controller
made_step IsStep bytes held keep opened after reply sent same loaded gives = record {
  before = opened.controller;
  read = subst (λ l. IsReadAs any_state_read l (Ok opened.controller)) same (loaded.shown refl);
  step = gives.step;
  is_step = gives.is_step.0;
  replied = gives.is_step.1;
  sends = gives.is_step.2;
  leads = gives.saved.after;
  is_text = refl;
}

-- of a text that is the same, to one that is
pub made_text : (IsStep : Steps) (bytes old held text : List ℕ) (reply : Result Reply Refusal) (sent : Option (List ℕ)) (after : AnyController) → MakesStep IsStep bytes old (text_of after) reply sent after → old ≡ held → text ≡ text_of after → MakesStep IsStep bytes held text reply sent after
made_text IsStep bytes old held text reply sent after made same is = record {
  before = made.before;
  read = subst (λ l. IsReadAs any_state_read l (Ok made.before)) same made.read;
  step = made.step;
  is_step = made.is_step;
  replied = made.replied;
  sends = made.sends;
  leads = made.leads;
  is_text = is;
}

-- none was loaded
pub not_loaded : (IsRefused : Refuses) (bytes held keep : List ℕ) (fault : Fault) → keep ≡ held → IsNotLoaded is_held text_held (λ _ _. ⊥) keep fault → IsNoStep IsRefused bytes held fault
not_loaded IsRefused bytes held keep (Device LoadFailed) same why = absurd why.1
not_loaded IsRefused bytes held keep (Device (Core e)) same why = subst (λ l. IsRefusalOf any_state_read l e) same (why refl)
not_loaded IsRefused bytes held keep fault same why = absurd why

-- one was, and made none
pub not_given : (IsRefused : Refuses) (IsText : List ℕ → Type 0) (count : List ℕ → ℕ) (bytes held keep : List ℕ) (opened after : Opened) (refused : Refused) → keep ≡ held → IsLoaded is_held text_held has_no_place keep opened → GivesNothing is_held text_held count (λ _ _ _. ⊥) (IsRefused bytes opened.controller) IsText opened after refused → IsNoStep IsRefused bytes held (fault_of refused)
not_given IsRefused IsText count bytes held keep opened after (Core e) same loaded why = ⊎_elim (λ told. inr (opened.controller, subst (λ l. IsReadAs any_state_read l (Ok opened.controller)) same (loaded.shown refl), told.0)) (λ memory. inl memory.0) why.1
not_given IsRefused IsText count bytes held keep opened after SaveFailed same loaded why = absurd why.2.2.fails
not_given IsRefused IsText count bytes held keep opened after Stale same loaded why = absurd (true≢false (sym why.0 ∙ loaded.fresh))
not_given IsRefused IsText count bytes held keep opened after refused same loaded why = absurd why

-- why a call gives up is told on
pub err_told : {A E : Type 0} (P Q : E → Type 0) (r : Result A E) → IsErrAnd r P → ((e : E) → P e → Q e) → IfErr r Q
err_told P Q (Ok a) why each = tt
err_told P Q (Err e) why each = each e why

-- what is told of an answer, and what is told of it where this holds
pub told_if : {A E : Type 0} (H : Type 0) (P Q : A → Type 0) (r : Result A E) → IfOk r P → (H → IfOk r Q) → IfOk r (λ a. P a × (H → Q a))
told_if H P Q (Ok a) ok seen = (ok, seen)
told_if H P Q (Err e) ok seen = tt
