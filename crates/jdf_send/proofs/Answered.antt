-- What is told of an answer.
use Rattle.std.proofs.Common.{Result, Ok, Err, IfErr, IfOk}
use Rattle.std.specs.Prelude.{MatchResult, OnOk}

-- what holds of each outcome holds of the one that there is
pub as_it_is : {A E : Type 0} (P : A → Type 0) (Q : E → Type 0) (r : Result A E) → IfOk r P → IfErr r Q → MatchResult r P Q
as_it_is P Q (Ok a) done refused = done
as_it_is P Q (Err e) done refused = refused

-- what holds however it ends holds where something is given out
pub given_out : {A E : Type 0} (P : Type 0) (r : Result A E) → P → OnOk r P
given_out P (Ok a) p = p
given_out P (Err e) p = tt
