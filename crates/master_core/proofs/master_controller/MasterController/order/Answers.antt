use Rattle.std.proofs.Common.{◌≡◌, true, ap, subst, sym}
use Rattle.std.proofs.lemmas.Result.{IfOk-weaker}
use Rattle.std.specs.Prelude.{IfSome}
use Rattle.controller.specs.Words.{may_be_sent}
use Rattle.master_core.proofs.NeverMemory.{order_idle, order_known}
use Rattle.master_core.proofs.Sends.{by_order}
use Rattle.master_core.proofs.master_controller.MasterController.order.Goals as goal

pub returns-clause-sendable : goal.returns-clause-sendable
returns-clause-sendable c =
    IfOk-weaker c.order.result _ _
    (λ done is. subst (λ sent. IfSome sent (λ m. may_be_sent m.body ≡ true)) (ap (λ s. s.sent) (sym is)) (by_order c.args.order c.args.at c.args.self.now))
    c.order.ensures.ok

pub returns-clause-known : goal.returns-clause-known
returns-clause-known c = order_known c.args.order c.args.at c.args.self.now

pub returns-clause-idle : goal.returns-clause-idle
returns-clause-idle c = order_idle c.args.order c.args.at c.args.self.now
