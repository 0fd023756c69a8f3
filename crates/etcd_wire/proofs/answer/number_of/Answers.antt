use Rattle.std.proofs.Common.{◌≡◌, true, sym, ◌∙◌, ap}
use Rattle.std.specs.Prelude.{Ok, decimal}
use Rattle.std.proofs.lemmas.Bool.{true≢false}
use Rattle.std.proofs.lemmas.Fmt.{parse-decimal}
use Rattle.std.proofs.lemmas.Slice.Eq.{bytes_eq-Decides}
use Rattle.etcd_wire.proofs.Told.{ok_same}
use Rattle.etcd_wire.proofs.answer.number_of.Goals as goal

pub returns-in_default-clause-none : goal.returns-in_default-clause-none
returns-in_default-clause-none c none n fits is =
    absurd (cc (sym c.in_default.is ∙ parse-decimal 64 n c.args.text.now c.parse.result fits fits is c.parse.ensures.value.0))

pub returns-else-is_decimal-clause-none : goal.returns-else-is_decimal-clause-none
returns-else-is_decimal-clause-none c none n fits is =
    let parsed : c.parse.result ≡ Ok n = parse-decimal 64 n c.args.text.now c.parse.result fits fits is c.parse.ensures.value.0 in
    let number : c.in-Ok.number ≡ n = ok_same _ _ (sym c.in-Ok.is ∙ parsed) in
    let shown : c.is_decimal.result ≡ true = c.is_decimal.ensures ∙ (bytes_eq-Decides (decimal c.in-Ok.number) c.args.text.now).1 (ap decimal number ∙ sym is) in
    absurd (true≢false (sym shown ∙ c.if-is_decimal.false))
