-- The text of a spawn's number names it, and nothing else does.
use Rattle.std.proofs.Common.{◌≡◌, ℕ, ◌<◌, ◌≤◌, ◌^◌, ◌&&◌, ◌||◌, ◌==◌, Bool, true, false, cond, List, [], ◌∷◌, length, get_or, Some, None, Ok, Err, refl, sym, ap, ◌∙◌, arith, rules}
use Rattle.std.proofs.lemmas.Bool.{and_parts, and_from, and_right, true≢false, ltb-true, lt-ltb, leb-true, lt-leb}
use Rattle.std.proofs.lemmas.Bool.Decides.{Decides-eqb}
use Rattle.std.proofs.lemmas.Fmt.{decimal-digits_value, digits_decimal, digits_value-decimal, first_decimal, decimal_nonempty, length-decimal-le}
use Rattle.std.proofs.lemmas.Str.Parse.{IsNumeralModel, IsDigitsTest, numerals_by_fold, parse_digits}
use Rattle.std.specs.Fmt.{decimal}
use Rattle.std.specs.List.{list_all}
use Rattle.std.specs.Str.Parse.{ParsesUnsigned}
use Rattle.ticket_items.specs.Names.{is_digit, is_letter, is_name, is_name_part}
use Rattle.ticket_items.specs.SpawnId.{is_spawn_number, spawn_text, is_numeral, number_read, number_in, spawn_of}

digits_test : IsDigitsTest (λ ds. list_all is_digit ds ≡ true)
digits_test = search rules

own : IsNumeralModel (λ ds. list_all is_digit ds ≡ true) (number_read 0)
own = numerals_by_fold _ digits_test number_read (search rules)

-- ---- a spawn's text is read as its number

pub small : (n : ℕ) → is_spawn_number n ≡ true → (1 ≤ n) × (n < 1000000000)
small n ok =
    let parts = and_parts _ _ ok in
    (leb-true _ _ parts.0, omega (arith, leb-true _ _ parts.1))

numeral_from : (ds : List ℕ) → list_all is_digit ds ≡ true → 0 < length ds → 48 < get_or ds 0 0 → is_numeral ds ≡ true
numeral_from [] digits long first = absurd (omega (arith, long))
numeral_from (d ∷ ds) digits long first = and_from _ _ (lt-ltb 48 d first) digits

number_in-known : (ds : List ℕ) (n : ℕ) → is_numeral ds ≡ true → number_read 0 ds ≡ n → is_spawn_number n ≡ true → number_in ds ≡ Some n
number_in-known ds n numeral read ok =
    ap (λ b. cond (b && is_spawn_number (number_read 0 ds)) (Some (number_read 0 ds)) None) numeral ∙ ap (λ m. cond (is_spawn_number m) (Some m) None) read ∙ ap (λ b. cond b (Some n) None) ok

pub spawn_of-spawn_text : (n : ℕ) → is_spawn_number n ≡ true → spawn_of (spawn_text n) ≡ Some n
spawn_of-spawn_text n ok =
    let within = small n ok in
    let low : n < 2 ^ 64 = omega (arith, within.1) in
    number_in-known (decimal n) n (numeral_from (decimal n) (digits_decimal own n low) (decimal_nonempty n low) (first_decimal n (omega (arith, within.0)) low)) (digits_value-decimal own n low) ok

-- ---- what is read as a number is that spawn's text

leading : (ds : List ℕ) → is_numeral ds ≡ true → get_or ds 0 0 ≡ 48 → length ds ≡ 1
leading [] numeral zero = absurd (true≢false (sym numeral))
leading (d ∷ ds) numeral zero = absurd (omega (arith, ltb-true 48 d (and_parts _ _ numeral).0, zero))

nonempty : (ds : List ℕ) → is_numeral ds ≡ true → 0 < length ds
nonempty [] numeral = absurd (true≢false (sym numeral))
nonempty (d ∷ ds) numeral = omega arith

all_digits : (ds : List ℕ) → is_numeral ds ≡ true → list_all is_digit ds ≡ true
all_digits [] numeral = refl
all_digits (d ∷ ds) numeral = (and_parts _ _ numeral).1

-- digits that write n, which is a spawn's number
record Writes (ds : List ℕ) (n : ℕ) : Type 0 where
  numeral : is_numeral ds ≡ true
  number : is_spawn_number n ≡ true
  read : number_read 0 ds ≡ n

read_at : (b : Bool) (ds : List ℕ) (n : ℕ) → (is_numeral ds && is_spawn_number (number_read 0 ds)) ≡ b → cond b (Some (number_read 0 ds)) None ≡ Some n → Writes ds n
read_at true ds n e found =
    let same : number_read 0 ds ≡ n = cc in
    let parts = and_parts _ _ e in
    record { numeral = parts.0; number = ap is_spawn_number (sym same) ∙ parts.1; read = same }
read_at false ds n e found = cc

digits_named : (ds : List ℕ) (n : ℕ) → number_in ds ≡ Some n → (ds ≡ decimal n) × (is_spawn_number n ≡ true)
digits_named ds n found =
    let writes = read_at _ ds n refl found in
    let within = small n writes.number in
    let low : number_read 0 ds < 2 ^ 64 = omega (arith, within.1, writes.read) in
    (sym (decimal-digits_value own ds (all_digits ds writes.numeral) (nonempty ds writes.numeral) (leading ds writes.numeral) low) ∙ ap decimal writes.read, writes.number)

named_at : (b : Bool) (c : ℕ) (ds : List ℕ) (n : ℕ) → (c == 83) ≡ b → cond b (number_in ds) None ≡ Some n → (c ∷ ds ≡ spawn_text n) × (is_spawn_number n ≡ true)
named_at true c ds n e found =
    let parts = digits_named ds n found in
    (ap (λ d. d ∷ ds) ((Decides-eqb c 83).0 e) ∙ ap (λ xs. 83 ∷ xs) parts.0, parts.1)
named_at false c ds n e found = cc

pub spawn_of-Some : (text : List ℕ) (n : ℕ) → spawn_of text ≡ Some n → (text ≡ spawn_text n) × (is_spawn_number n ≡ true)
spawn_of-Some [] n found = cc
spawn_of-Some (c ∷ ds) n found = named_at (c == 83) c ds n refl found

-- ---- what std's `parse` makes of digits

too_large : (m : ℕ) → 999999999 < m → is_spawn_number m ≡ false
too_large m above = and_right _ _ (lt-leb m 999999999 above)

-- digits that std refuses write no spawn's number
pub none_parsed : (ds : List ℕ) → is_numeral ds ≡ true → ParsesUnsigned {E = ℕ} 32 10 ds (Err 0) → None ≡ number_in ds
none_parsed ds numeral parsed =
    let none = parse_digits own {E = ℕ} 32 ds (Err 0) parsed (all_digits ds numeral) in
    let large : number_read 0 ds < 2 ^ 32 → ⊥ = λ below. none (nonempty ds numeral, below) in
    sym (ap (λ b. cond b (Some (number_read 0 ds)) None) (and_right (is_numeral ds) _ (too_large (number_read 0 ds) (omega (arith, large)))))

-- the number that std reads is the spawn's, if it is one
pub some_parsed : (ds : List ℕ) (n : ℕ) (b : Bool) → is_numeral ds ≡ true → ParsesUnsigned {E = ℕ} 32 10 ds (Ok n) → is_spawn_number n ≡ b → cond b (Some n) None ≡ number_in ds
some_parsed ds n b numeral parsed is =
    let read = parse_digits own {E = ℕ} 32 ds (Ok n) parsed (all_digits ds numeral) in
    ap (λ c. cond c (Some n) None) (sym is) ∙ ap (λ m. cond (is_spawn_number m) (Some m) None) read.1 ∙ ap (λ c. cond (c && is_spawn_number (number_read 0 ds)) (Some (number_read 0 ds)) None) (sym numeral)

-- ---- the text is an id

digit_part : (a b x y z : Bool) → b ≡ true → (a || b || x || y || z) ≡ true
digit_part true b x y z digit = refl
digit_part false b x y z digit = ap (λ c. c || x || y || z) digit

digits_parts : (ds : List ℕ) → list_all is_digit ds ≡ true → list_all is_name_part ds ≡ true
digits_parts [] digits = refl
digits_parts (d ∷ ds) digits =
    let parts = and_parts _ _ digits in
    and_from _ _ (digit_part (is_letter d) (is_digit d) (d == 95) (d == 46) (d == 45) parts.0) (digits_parts ds parts.1)

pub is_name-spawn_text : (n : ℕ) → is_spawn_number n ≡ true → is_name (spawn_text n) ≡ true
is_name-spawn_text n ok =
    let within = small n ok in
    let low : n < 2 ^ 64 = omega (arith, within.1) in
    let short : length (decimal n) ≤ 9 = length-decimal-le 9 n (omega arith) within.1 low in
    and_from _ _ (digits_parts (decimal n) (digits_decimal own n low)) (lt-ltb (length (decimal n)) 64 (omega (arith, short)))
