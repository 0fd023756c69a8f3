-- What is so at the end of a line's turn.
use Rattle.std.proofs.Common.{◌≡◌, ◌==◌, Bool, true, [], OnOk, Result, Ok, Err, Vec, arith, length, vec_len}
use Rattle.std.proofs.lemmas.Bool.Decides.{nat_tests}
use Rattle.std.proofs.lemmas.List.{nil_from_length}
use Rattle.std.specs.declared.alloc.Global.{Global}

-- what is so anyway is so of an `Ok`
pub on_ok : {T E P : Type 0} (r : Result T E) → P → OnOk r P
on_ok (Ok x) is = is
on_ok (Err e) is = tt

-- a list that is found empty is
pub none_left : {X : Type 0} (v : Vec X Global) (is_empty : Bool) → is_empty ≡ (vec_len v == 0) → is_empty ≡ true → v.items ≡ []
none_left v is_empty is so =
    let none : length v.items ≡ 0 = grind (arith, nat_tests, v.ok.0) in
    nil_from_length v.items none
