use Rattle.std.proofs.Common.{[], ◌∙◌, ap, refl}
use Rattle.std.specs.Prelude.{Err}
use Rattle.cells.proofs.Keeping.{part_join, stepped_since}
use Rattle.cell_commands.proofs.Revisions.{rise_join, rise_same}
use Rattle.cell_commands.proofs.stepping.step_in_cell.Goals as goal

pub loop-init : goal.loop-init
loop-init g c = record { came = λ honest. ([], refl); sent = λ honest s may. may; rises = λ honest. rise_same _ }

pub returns-in-Ok-clause-stepped : goal.returns-in-Ok-clause-stepped
returns-in-Ok-clause-stepped g c honest = stepped_since _ _ _ _ _ (c.loop.invariant.came honest) (c.in-Ok.ensures.stepped honest)

pub returns-in-Ok-clause-sent : goal.returns-in-Ok-clause-sent
returns-in-Ok-clause-sent g c honest = λ s may. c.loop.invariant.sent honest s (c.in-Ok.ensures.sent honest s may)

pub returns-in-Ok-clause-rises : goal.returns-in-Ok-clause-rises
returns-in-Ok-clause-rises g c honest = rise_join _ _ _ (c.loop.invariant.rises honest) (c.try_step.ensures.rises honest)

pub returns-in-Err-clause-rises : goal.returns-in-Err-clause-rises
returns-in-Err-clause-rises g c honest = rise_join _ _ _ (c.loop.invariant.rises honest) (c.try_step.ensures.rises honest)

pub loop-preserved : goal.loop-preserved
loop-preserved g c =
    record {
      came = λ honest. part_join _ _ _ (c.loop.invariant.came honest) (c.try_step.ensures.grows honest);
      sent = λ honest s may. c.loop.invariant.sent honest s (c.try_step.ensures.overtaken honest (c.in-Err-Overtaken.is ∙ ap Err c.in-Err-Overtaken.field-0-is) s may);
      rises = λ honest. rise_join _ _ _ (c.loop.invariant.rises honest) (c.try_step.ensures.rises honest);
    }
