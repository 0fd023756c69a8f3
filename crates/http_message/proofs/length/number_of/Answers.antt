use Rattle.http_message.proofs.Digits.{number_step}
use Rattle.http_message.proofs.length.number_of.Goals as goal

pub loop-digit-preserved : goal.loop-digit-preserved
loop-digit-preserved c =
    number_step c.args.digits.now c.loop-digit.digit-index c.loop-digit.number c.min-number.result _
    c.requires c.loop-digit-test.true c.loop-digit.invariant c.min-number.ensures
