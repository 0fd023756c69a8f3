-- Lines of steps that were saved, where memory runs out behind them, and calls that make no step.
use Rattle.std.proofs.Common.{◌≡◌, ℕ, Bool, List, Result, Ok, Err, IfOk, IfErr, inl, inr, refl, subst, sym}
use Rattle.std.specs.Prelude.{◌⊎◌, IsErrAnd}
use Rattle.ticket_items.specs.declared.refusal.Refusal.TheVariants.{Memory}
use Rattle.journal.specs.Journal.{IsLeft}
use Rattle.streams.specs.declared.fault.Fault.{Fault}
use Rattle.streams.specs.declared.fault.Fault.TheVariants.{Input}
use Rattle.streams.specs.declared.refused.Refused.TheVariants.{Core}

-- then nothing is said of them
pub untold : {A : Type 0} (H L : Type 0) (r : Result A Fault) → IsErrAnd r (λ f. f ≡ Input (Core Memory)) → IfErr r (λ f. H → L ⊎ (f ≡ Input (Core Memory)))
untold H L (Ok a) memory = tt
untold H L (Err f) memory = λ h. inr memory

-- the same of what may be given out
pub untold_given : {A : Type 0} (H L : Type 0) (r : Result A Fault) → IfErr r (λ f. f ≡ Input (Core Memory)) → IfErr r (λ f. H → L ⊎ (f ≡ Input (Core Memory)))
untold_given H L (Ok a) memory = tt
untold_given H L (Err f) memory = λ h. inr memory

-- a journal that nobody wrote in is left
is_left : {J : Type 0} (held : J → List ℕ) (is_missed : J → Bool) (j : J) → IsLeft held is_missed j j
is_left held is_missed j = record { holds = refl; missed = refl }

-- whatever a call gives out
pub left_given : {A E J : Type 0} (H : Type 0) (held : J → List ℕ) (is_missed : J → Bool) (j : J) (r : Result A E) → IfOk r (λ _. H → IsLeft held is_missed j j)
left_given H held is_missed j (Ok a) = λ h. is_left held is_missed j
left_given H held is_missed j (Err e) = tt

-- and where it gives up
pub left_none : {A E J : Type 0} (H : Type 0) (M : E → Type 0) (held : J → List ℕ) (is_missed : J → Bool) (j : J) (r : Result A E) → IfErr r (λ e. H → IsLeft held is_missed j j ⊎ M e)
left_none H M held is_missed j (Ok a) = tt
left_none H M held is_missed j (Err e) = λ h. inl (is_left held is_missed j)

-- why a call gives up is told on
pub told_on : {A : Type 0} (P : Fault → Type 0) (r : Result A Fault) (e : Fault) → IsErrAnd r (λ f. f ≡ e) → P e → IfErr r P
told_on P (Ok a) e is p = tt
told_on P (Err f) e is p = subst P (sym is) p
