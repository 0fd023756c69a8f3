use Rattle.std.proofs.Common.{IfOk, OnErr, subst, sym}
use Rattle.shop_day.specs.Done.{DoesLine, IsUntold}
use Rattle.shop_day.proofs.doing.line_outcome.Goals as goal

pub returns-in-Order-clause-done : goal.returns-in-Order-clause-done
returns-in-Order-clause-done g c = subst (λ call. IfOk c.order_outcome.result (DoesLine (record { call = call; at = c.args.line.at }) c.args.shop.now c.order_outcome.new.shop)) (sym c.in-Order.is) c.order_outcome.ensures.done

pub returns-in-Order-clause-untold : goal.returns-in-Order-clause-untold
returns-in-Order-clause-untold g c = subst (λ call. OnErr c.order_outcome.result (IsUntold (record { call = call; at = c.args.line.at }) c.args.shop.now c.order_outcome.new.shop)) (sym c.in-Order.is) c.order_outcome.ensures.untold

pub returns-in-Take-clause-done : goal.returns-in-Take-clause-done
returns-in-Take-clause-done g c = subst (λ call. IfOk c.take_outcome.result (DoesLine (record { call = call; at = c.args.line.at }) c.args.shop.now c.take_outcome.new.shop)) (sym c.in-Take.is) c.take_outcome.ensures.done

pub returns-in-Take-clause-untold : goal.returns-in-Take-clause-untold
returns-in-Take-clause-untold g c = subst (λ call. OnErr c.take_outcome.result (IsUntold (record { call = call; at = c.args.line.at }) c.args.shop.now c.take_outcome.new.shop)) (sym c.in-Take.is) c.take_outcome.ensures.untold

pub returns-in-Show-clause-done : goal.returns-in-Show-clause-done
returns-in-Show-clause-done g c = subst (λ call. IfOk c.show_outcome.result (DoesLine (record { call = call; at = c.args.line.at }) c.args.shop.now c.show_outcome.new.shop)) (sym c.in-Show.is) c.show_outcome.ensures.done

pub returns-in-Show-clause-untold : goal.returns-in-Show-clause-untold
returns-in-Show-clause-untold g c = subst (λ call. OnErr c.show_outcome.result (IsUntold (record { call = call; at = c.args.line.at }) c.args.shop.now c.show_outcome.new.shop)) (sym c.in-Show.is) c.show_outcome.ensures.untold
