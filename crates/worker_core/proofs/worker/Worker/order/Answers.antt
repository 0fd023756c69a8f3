use Rattle.std.proofs.Common.{◌≡◌, Err, IfErr, IfOk, subst}
use Rattle.ticket_items.specs.declared.refusal.Refusal.TheVariants.{Memory}
use Rattle.worker_core.proofs.Kept.{kept_done}
use Rattle.worker_core.specs.Orders.{order_step}
use Rattle.worker_core.specs.Worker.{State, state}
use Rattle.worker_core.proofs.worker.Worker.order.Goals as goal

pub invariant_of-self : goal.invariant_of-self
invariant_of-self c =
    let name = c.self.inside.name in
    let master = c.self.inside.master in
    kept_done c.do_order.result c.args.order c.args.at (state name master c.self.inside.entries) (state name master c.do_order.new.entries) c.do_order.ensures c.self.invariant

pub returns-clause-refused : goal.returns-clause-refused
returns-clause-refused c = subst (λ (w : State). IfErr (order_step c.args.order c.args.at w).reply (λ e. c.do_order.result ≡ Err e)) c.self.view_is c.do_order.ensures.refused

pub returns-clause-memory : goal.returns-clause-memory
returns-clause-memory c = subst (λ (w : State). IfOk (order_step c.args.order c.args.at w).reply (λ _. IfErr c.do_order.result (λ e. e ≡ Memory))) c.self.view_is c.do_order.ensures.memory
