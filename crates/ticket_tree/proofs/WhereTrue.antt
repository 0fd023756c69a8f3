-- What is there where a test holds.
use Rattle.std.proofs.Common.{◌≡◌, Bool, true, false, if◌then◌else◌, Option, Some, None, IfSome, refl, subst}
use Rattle.std.proofs.lemmas.Option.{none-some}

-- there is a value just where the test holds, and it is this one
pub where_true : {A P : Type 0} (b : Bool) (x y : A) → (if b then Some x else None) ≡ Some y
    → ((b ≡ true) → (x ≡ y) → P) → P
where_true true x y is holds = holds refl (subst (λ o. IfSome o (λ v. x ≡ v)) is refl)
where_true false x y is holds = absurd (none-some y is)
