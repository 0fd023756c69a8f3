use Rattle.std.proofs.Common.{◌∙◌, ap, sym}
use Rattle.stored_state.specs.Cause.{step_on}
use Rattle.stored_state.proofs.cause.make.Goals as goal

pub returns-in_ok-outcome-in-Message-clause-ok : goal.returns-in_ok-outcome-in-Message-clause-ok
returns-in_ok-outcome-in-Message-clause-ok g c =
    c.in_ok-outcome-in-Message.ensures.ok
    ∙ ap (λ k. step_on g.C.Controller.order_step g.C.Controller.take_step k c.args.at c.args.controller.now) (sym c.in-Message.is)
