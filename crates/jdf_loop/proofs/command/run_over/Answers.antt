use Rattle.std.proofs.Common.{IfOk, List, subst}
use Rattle.std.proofs.lemmas.Result.{IfOk-weaker}
use Rattle.world.specs.State.{IsConsistent, State, opening}
use Rattle.world_items.specs.declared.event.Event.{Event}
use Rattle.jdf_loop.proofs.OneTicket.{one_ticket}
use Rattle.jdf_loop.specs.Run.{IsRunFrom}
use Rattle.jdf_loop.proofs.command.run_over.Goals as goal

pub returns-in-Ok : goal.returns-in-Ok
returns-in-Ok g c =
    let script = c.args.script in
    let first : State = opening script.master script.workers script.ticket in
    let written = subst (λ (w : State). IfOk c.run_output-written.result (λ output. IsRunFrom w script.events output.text.items output.refused)) c.in-Ok.ensures.is
    (subst (λ (events : List Event). IfOk c.run_output-written.result (λ output. IsRunFrom c.in-Ok.shop events output.text.items output.refused)) c.into_vec.ensures c.run_output-written.ensures) in
    let kept : IsConsistent first = subst IsConsistent c.in-Ok.ensures.is c.in-Ok.ensures.kept in
    IfOk-weaker c.run_output-written.result _ _ (λ output run. record { run = run; one_ticket = one_ticket script.master script.workers script.ticket script.events kept }) written
