use Rattle.std.proofs.Common.{◌≡◌, ℕ, ◌+◌, ◌<◌, ◌≤◌, true, false, List, min, refl, sym, ap, ◌∙◌, arith, lt-ltb, Ok, Err}
use Rattle.std.specs.Str.Parse.{digits_value}
use Rattle.std.proofs.lemmas.Bool.{le-ltb}
use Rattle.streams.specs.declared.refused.Refused.TheVariants.{BadHead, TooLarge}
use Rattle.http_message.specs.Says.{is_number, length_of}
use Rattle.http_message.proofs.length.length_of.Goals as goal

no_number : (most : ℕ) (text : List ℕ) → is_number text ≡ false → Err BadHead ≡ length_of most text
unfolding length_of
no_number most text is = rw is refl

large : (most : ℕ) (text : List ℕ) (n : ℕ) → is_number text ≡ true → n ≡ min (digits_value 10 text) (most + 1)
    → most < n → Err TooLarge ≡ length_of most text
unfolding length_of
large most text n is number above =
    let value : most < digits_value 10 text = omega arith in
    rw (is, lt-ltb most (digits_value 10 text) value) refl

small : (most : ℕ) (text : List ℕ) (n : ℕ) → is_number text ≡ true → n ≡ min (digits_value 10 text) (most + 1)
    → n ≤ most → Ok n ≡ length_of most text
unfolding length_of
small most text n is number within =
    let value : n ≡ digits_value 10 text = omega arith in
    let no : digits_value 10 text ≤ most = omega arith in
    rw (is, le-ltb most (digits_value 10 text) no) (ap (λ m. Ok m) value)

pub returns-then-not-is_number-clause-value : goal.returns-then-not-is_number-clause-value
returns-then-not-is_number-clause-value c =
    no_number c.args.most c.args.text.now (sym c.is_number.ensures ∙ c.if-not-is_number.true)

pub returns-then-length-most-clause-value : goal.returns-then-length-most-clause-value
returns-then-length-most-clause-value c =
    large c.args.most c.args.text.now c.number_of-length.result (sym c.is_number.ensures ∙ c.if-not-is_number.false)
    c.number_of-length.ensures c.if-length-most.true

pub returns-clause-value : goal.returns-clause-value
returns-clause-value c =
    small c.args.most c.args.text.now c.number_of-length.result (sym c.is_number.ensures ∙ c.if-not-is_number.false)
    c.number_of-length.ensures c.if-length-most.false
