use Rattle.std.proofs.Common.{map, subst}
use Rattle.std.proofs.lemmas.List.{take_all}
use Rattle.std.specs.List.{AllZip}
use Rattle.rounds.specs.Line.{comings_of}
use Rattle.server_steps.specs.OrderLines.{IsNameOf, kept_name}
use Rattle.server_steps.proofs.OrderLines.{next_name}
use Rattle.server_steps.proofs.journaling.words_of.Goals as goal

pub loop-order-preserved : goal.loop-order-preserved
loop-order-preserved g c =
    next_name c.args.orders.now c.loop-order.order-index c.order-item.result c.loop-order.words.items c.push.new.self.items c.in_ok-word_of.field-0 c.loop-order-test.true c.order-item.is
    c.loop-order.invariant c.in_ok-word_of.ensures c.in_ok-push.ensures.items

pub returns : goal.returns
returns g c =
    λ honest. subst (λ orders. AllZip IsNameOf (comings_of orders) (map kept_name c.loop-order.words.items)) (take_all c.loop-order.order-index c.args.orders.now c.loop-order-test.false) c.loop-order.invariant
