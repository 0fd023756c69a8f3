-- Numbers that are read digit by digit, up to a limit.
use Rattle.std.proofs.Common.{◌≡◌, ℕ, ◌+◌, ◌-◌, ◌*◌, ◌<◌, min, Bool, true, false, List, length, take, get_or, refl, arith, rules}
use Rattle.std.specs.Prelude.{IsTrue, ◌&&◌}
use Rattle.std.specs.Char.{is_ascii_digit}
use Rattle.std.specs.Int.{IsInRange}
use Rattle.std.specs.Str.Parse.{digits_value}
use Rattle.std.proofs.lemmas.Int.Digits.{digits_value_more}
use Rattle.std.proofs.lemmas.List.Sums.{AllPass-from_list_all}
use Rattle.std.proofs.lemmas.Str.{digit_value_digit}
use Rattle.std.proofs.lemmas.Bool.Decides.{nat_tests}
use Rattle.http_message.specs.Says.{is_number}

pub is_digit_range : (c : ℕ) → is_ascii_digit c ≡ true → IsInRange 48 57 c
is_digit_range c is = grind (arith, nat_tests)

pub digit_at : (text : List ℕ) (i : ℕ) → IsTrue (is_number text) → i < length text
    → IsInRange 48 57 (get_or text i 0)
digit_at text i number within =
    is_digit_range _ (AllPass-from_list_all is_ascii_digit text (digits _ _ number) i 0 within)
  where
    digits : (a b : Bool) → IsTrue (a && b) → b ≡ true
    digits true true is = refl
    digits true false is = absurd (search rules)
    digits false b is = absurd (search rules)

pub number_step : (text : List ℕ) (i n m limit : ℕ) → IsTrue (is_number text) → i < length text
    → n ≡ min (digits_value 10 (take i text)) limit
    → m ≡ min (n * 10 + (get_or text i 0 - 48)) limit
    → m ≡ min (digits_value 10 (take (i + 1) text)) limit
number_step text i n m limit number within before now =
    let more = digits_value_more 10 text i within in
    let digit = digit_at text i number within in
    let value = digit_value_digit _ digit in
    omega (arith, more, digit.0, digit.1, value)
