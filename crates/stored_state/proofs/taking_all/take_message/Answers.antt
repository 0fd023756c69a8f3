use Rattle.std.proofs.lemmas.Result.{IfOk-weaker}
use Rattle.std.proofs.Common.{Err, Some, ap, refl}
use Rattle.ticket_items.specs.declared.refusal.Refusal.TheVariants.{Memory}
use Rattle.master_core.specs.Messages as master_messages
use Rattle.worker_core.specs.Messages as worker_messages
use Rattle.stored_state.specs.Opened.{of_master, of_worker}
use Rattle.stored_state.specs.declared.coming.Coming.TheVariants.{Message}
use Rattle.stored_state.proofs.TakingEach.{made_as}
use Rattle.stored_state.proofs.taking_all.take_message.Goals as goal

pub returns-in-Err-clause-gives : goal.returns-in-Err-clause-gives
returns-in-Err-clause-gives c =
    record { step = Err Memory; takes = (refl, refl); gives = refl; sender = tt }

pub returns-in-Master-clause-gives : goal.returns-in-Master-clause-gives
returns-in-Master-clause-gives c =
    rw c.in-Master.is
    (IfOk-weaker c.make_step.result _ _
    (λ made makes. made_as of_master c.args.at (Message c.args.message) (master_messages.take_step c.args.message c.args.at c.in-Master.master) _ c.in-Master.master c.make_step.new.controller made.0 refl (λ e is. is) (ap Some c.in-Ok.ensures) makes) c.make_step.ensures.makes)

pub returns-in-Worker-clause-gives : goal.returns-in-Worker-clause-gives
returns-in-Worker-clause-gives c =
    rw c.in-Worker.is
    (IfOk-weaker c.make_step-in-Worker.result _ _
    (λ made makes. made_as of_worker c.args.at (Message c.args.message) (worker_messages.take_step c.args.message c.args.at c.in-Worker.worker) _ c.in-Worker.worker c.make_step-in-Worker.new.controller made.0 refl (λ e is. is) (ap Some c.in-Ok.ensures) makes) c.make_step-in-Worker.ensures.makes)
