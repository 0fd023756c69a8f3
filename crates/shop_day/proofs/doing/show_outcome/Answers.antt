use Rattle.std.proofs.Common.{inl, subst}
use Rattle.std.proofs.lemmas.Result.{IfOk-weaker}
use Rattle.world.proofs.Runs.Answered.{on_err}
use Rattle.shop_day.proofs.Stops.{look_stopped}
use Rattle.shop_day.specs.Done.{DoesLine}
use Rattle.shop_day.specs.declared.line.Call.TheVariants.{Show}
use Rattle.shop_day.proofs.doing.show_outcome.Goals as goal

pub returns-in-Ok-clause-done : goal.returns-in-Ok-clause-done
returns-in-Ok-clause-done g c =
    IfOk-weaker c.shown_outcome.result _ _ (λ outcome is. subst (λ w. DoesLine (record { call = Show c.args.name; at = c.args.at }) w c.step.new.self outcome) c.in-Ok.ensures.state is) c.shown_outcome.ensures

pub returns-in-Err-clause-done : goal.returns-in-Err-clause-done
returns-in-Err-clause-done g c =
    look_stopped c.args.name c.in_ok-copy.field-0 c.args.at c.args.shop.now c.step.new.self c.in-Err.refused c.fault_of.result c.in-Err.ensures.err c.in-Err.ensures.refused c.fault_of.ensures

pub returns-in-Ok-clause-untold : goal.returns-in-Ok-clause-untold
returns-in-Ok-clause-untold g c = on_err _ c.shown_outcome.result (inl c.in-Ok.ensures.state)
