-- Digits that aren't parsed are no port.
use Rattle.std.proofs.Common.{◌≡◌, ℕ, ◌<◌, ◌&&◌, Bool, true, false, List, [], ◌∷◌, length, nat_lt, refl, sym, arith, rules}
use Rattle.std.specs.Prelude.{Err}
use Rattle.std.specs.Char.{is_ascii_digit}
use Rattle.std.specs.List.{list_all}
use Rattle.std.specs.Str.Parse.{ParsesUnsigned, digits_value}
use Rattle.std.proofs.lemmas.Bool.{ltb-true}
use Rattle.std.proofs.lemmas.Str.Parse.{IsNumeralModel, numerals_by_value, parse_digits}
use Rattle.etcd_place.specs.Place.{is_port}

own : IsNumeralModel (λ ds. list_all is_ascii_digit ds ≡ true) (digits_value 10)
own = numerals_by_value _ (search rules)

not_less : (n m : ℕ) (b : Bool) → nat_lt n m ≡ b → ¬ (n < m) → b ≡ false
not_less n m true is never = absurd (never (ltb-true n m is))
not_less n m false is never = refl

not_all : (a b c : Bool) → c ≡ false → false ≡ (a && b && c)
not_all true true c is = sym is
not_all true false c is = refl
not_all false b c is = refl

pub no_port : {E : Type 0} (ds : List ℕ) (e : E) → ParsesUnsigned 16 10 ds (Err e) → list_all is_ascii_digit ds ≡ true → false ≡ is_port ds
no_port [] e parses digits = refl
no_port (d ∷ ds) e parses digits =
    let never : ¬ ((0 < length (d ∷ ds)) × (digits_value 10 (d ∷ ds) < 65536)) = parse_digits own 16 (d ∷ ds) (Err e) parses digits in
    not_all (list_all is_ascii_digit (d ∷ ds)) (nat_lt 0 (digits_value 10 (d ∷ ds))) _
    (not_less (digits_value 10 (d ∷ ds)) 65536 _ refl (λ less. never (omega arith, less)))
