use Rattle.std.proofs.Common.{◌∙◌, ap}
use Rattle.stored_state.proofs.MessageTexts.{sent_back, sent_text}
use Rattle.stored_state.specs.Cause.{step_on}
use Rattle.plain_shop.specs.Settling.{number_of, with_sent}
use Rattle.world_items.specs.Word.{word_of}
use Rattle.world.proofs.stepping.steps_on.Goals as goal

pub send-number-requires-clause-text : goal.send-number-requires-clause-text
send-number-requires-clause-text g c =
    sent_text (λ b. b.items) c.in_ok-given.given.message (step_on g.C.Controller.order_step g.C.Controller.take_step c.args.cause c.args.at (g.S.Seat.kept c.args.seat.now)).sent c.in_ok-given.ensures.message c.in_ok-given.ensures.read

pub returns-clause-answer : goal.returns-clause-answer
returns-clause-answer g c =
    let sent = sent_back (λ b. b.items) c.in_ok-given.given.message (step_on g.C.Controller.order_step g.C.Controller.take_step c.args.cause c.args.at (g.S.Seat.kept c.args.seat.now)).sent c.in_ok-given.ensures.message c.in_ok-given.ensures.read in
    let word = c.of.ensures ∙ ap word_of c.in_ok-given.ensures.reply in
    let number = c.send-number.ensures.number ∙ (λ j. number_of (c.reserve.ensures.messages j) (sent j)) in
    λ i. record { word = word i; number = number i }

pub returns-clause-messages : goal.returns-clause-messages
returns-clause-messages g c =
    let sent = sent_back (λ b. b.items) c.in_ok-given.given.message (step_on g.C.Controller.order_step g.C.Controller.take_step c.args.cause c.args.at (g.S.Seat.kept c.args.seat.now)).sent c.in_ok-given.ensures.message c.in_ok-given.ensures.read in
    c.send-number.ensures.messages ∙ (λ j. with_sent (c.reserve.ensures.messages j) (sent j))
