-- What is told of a refusal, as it is passed on.
use Rattle.std.proofs.Common.{◌≡◌, ◌∙◌, Bool, true, false, [], ◌∷◌, Option, Some, None, Result, Ok, Err, IfSome, OnErr, OnOk, refl, sym, ap}
use Rattle.std.specs.Result.{IsErrAnd, result_or}
use Rattle.ticket_items.specs.declared.refusal.Refusal.{Refusal}
use Rattle.ticket_rows.specs.Ticket.{first_of, unless}

-- what was refused is refused where it is passed on
pub refused_through : {X Y : Type 0} (o : Option Refusal) (inner : Result X Refusal) (outer : Result Y Refusal) (e : Refusal) → IfSome o (λ r. inner ≡ Err r) → inner ≡ Err e → IsErrAnd outer (λ r. r ≡ e) → IfSome o (λ r. outer ≡ Err r)
refused_through None inner outer e told was is = tt
refused_through (Some r) inner (Ok y) e told was is = absurd is
refused_through (Some r) inner (Err q) e told was is =
    let same : r ≡ e = cc in
    ap Err (is ∙ sym same)

-- what went well wasn't refused
pub went_free : {X : Type 0} (o : Option Refusal) (x : X) → IfSome o (λ (r : Refusal). Ok x ≡ Err r) → o ≡ None
went_free None x told = refl
went_free (Some r) x told = cc

-- what follows where it went well holds where that was passed on
pub went : {X E F P : Type 0} (first : Result X E) (told : Result X F) (f : F) (x : X) → told ≡ result_or first (Err f) → told ≡ Ok x → OnOk first P → P
went (Ok y) told f x is ok p = p
went (Err e) told f x is ok p = cc

-- and where it didn't
pub failed : {X E F P : Type 0} (first : Result X E) (told : Result X F) (f e : F) → told ≡ result_or first (Err f) → told ≡ Err e → OnErr first P → P
failed (Ok y) told f e is bad p = cc
failed (Err q) told f e is bad p = p

-- one refusal alone, behind a test that is passed
pub behind_test : (b : Bool) (r : Refusal) (o : Option Refusal) → b ≡ true → first_of (unless b r ∷ o ∷ []) ≡ o
behind_test true r None passed = refl
behind_test true r (Some q) passed = refl
behind_test false r o passed = cc
