use Rattle.std.proofs.Common.{◌≡◌, true, ap, subst, sym}
use Rattle.std.proofs.lemmas.Result.{IfOk-weaker}
use Rattle.std.specs.Prelude.{IfSome}
use Rattle.controller.specs.Words.{may_be_sent}
use Rattle.master_core.proofs.Sends.{by_message}
use Rattle.master_core.proofs.master_controller.MasterController.take.Goals as goal

pub returns-clause-sendable : goal.returns-clause-sendable
returns-clause-sendable c =
    IfOk-weaker c.take.result _ _
    (λ outcome is. subst (λ sent. IfSome sent (λ m. may_be_sent m.body ≡ true)) (ap (λ s. s.sent) (sym is)) (by_message c.args.message c.args.at c.args.self.now))
    c.take.ensures.ok
