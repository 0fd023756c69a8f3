-- Counted calls that failed.
use Rattle.std.proofs.Common.{◌≡◌, ℕ, ◌-◌, ◌^◌, false, List, Option, arith, inl, inr, ⊎_elim, ap}
use Rattle.std.proofs.Common.{◌∙◌, sym}
use Rattle.std.proofs.lemmas.Bool.{true≢false}
use Rattle.std.proofs.lemmas.Bool.Decides.{eqb_tells}
use Rattle.std.specs.IoError.{error_kind}
use Rattle.std.specs.declared.io.Error.{Error}
use Rattle.streams.specs.Counts.{Counts, IsFull, CountsError, CountsFailure, is_interruption}
use Rattle.streams.specs.Streams.{HasFailed, traffic}

-- a call that failed is counted, unless none is counted any more
pub call_failed : {T : Type 0} (known : T → Option (List ℕ)) (start old new : Counts T)
    → old.failures ≡ start.failures → (IsFull old → new ≡ old)
    → (¬ IsFull old → CountsFailure old new) → HasFailed (traffic known start new)
call_failed known start old new same full called =
    ⊎_elim
    (λ is. inr (ap (λ c. c.calls) (full is.1) ∙ is.1))
    (λ isnt. let counted = (called isnt.1).failures in inl (omega (arith, counted, same)))
    (eqb_tells old.calls (2 ^ 64 - 1))

-- of an error that is no interruption the failure is counted
pub was_failure : {T : Type 0} (old new : Counts T) (e : Error)
    → is_interruption (error_kind e) ≡ false → CountsError old new e → CountsFailure old new
was_failure old new e failed counted =
    ⊎_elim (λ i. absurd (true≢false (sym i.0 ∙ failed))) (λ f. f.1) counted
