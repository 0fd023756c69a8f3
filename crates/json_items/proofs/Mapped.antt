-- What is made of what was found.
use Rattle.std.proofs.Common.{◌≡◌, Option, Result, Ok, Err, refl, subst, sym}
use Rattle.std.specs.Option.{option_map}
use Rattle.std.specs.Prelude.{IsOkAnd, MatchResult}
use Rattle.ticket_items.specs.declared.refusal.Refusal.{Refusal}
use Rattle.json_items.proofs.Faults.{made_err, made_ok}
use Rattle.json_items.specs.Validation.{Finds}

-- is found of the draft, where a closure makes it
pub mapped : {P R : Type 0} (post : P → R → Type 0) (fault : P → Option Refusal) (made_fault : R → Option Refusal) (make : P → R) (parts : Option P) (draft : Option R) (found : Result P Refusal) (r : Result R Refusal)
    → draft ≡ option_map make parts → ((p : P) → made_fault (make p) ≡ fault p) → ((p : P) (x : R) → post p x → x ≡ make p)
    → Finds fault found parts → MatchResult found (λ p. IsOkAnd r (post p)) (λ e. r ≡ Err e) → Finds made_fault r draft
mapped post fault made_fault make parts draft (Ok p) (Ok x) is same says finds maps = made_ok fault made_fault make parts draft (Ok p) p x is same refl finds (says p x maps)
mapped post fault made_fault make parts draft (Ok p) (Err e) is same says finds maps = absurd maps
mapped post fault made_fault make parts draft (Err e) r is same says finds maps = subst (λ f. Finds made_fault f draft) (sym maps) (made_err fault made_fault make parts draft (Err e) e is same refl finds)
