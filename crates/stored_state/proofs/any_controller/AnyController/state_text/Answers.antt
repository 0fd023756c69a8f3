use Rattle.std.proofs.lemmas.Result.{IfOk-weaker}
use Rattle.stored_state.proofs.KindTold.{any_of_master, any_of_worker}
use Rattle.stored_state.proofs.any_controller.AnyController.state_text.Goals as goal

pub returns-in-Master-clause-again : goal.returns-in-Master-clause-again
returns-in-Master-clause-again c =
    rw c.in-Master.is
    (IfOk-weaker c.state_text.result _ _ (λ b is. any_of_master b.items c.in-Master.master is) c.state_text.ensures.again)

pub returns-in-Worker-clause-again : goal.returns-in-Worker-clause-again
returns-in-Worker-clause-again c =
    rw c.in-Worker.is
    (IfOk-weaker c.state_text-in-Worker.result _ _ (λ b is. any_of_worker b.items c.in-Worker.worker is) c.state_text-in-Worker.ensures.again)
