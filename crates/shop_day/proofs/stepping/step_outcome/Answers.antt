use Rattle.std.proofs.Common.{subst, sym}
use Rattle.std.proofs.lemmas.Result.{IfOk-weaker}
use Rattle.world.proofs.Runs.Answered.{on_err}
use Rattle.world_items.specs.declared.answer.Answer.{Answer}
use Rattle.world_items.specs.declared.stop.Stop.TheVariants.{Run}
use Rattle.shop_day.proofs.Stops.{step_stopped}
use Rattle.shop_day.specs.Done.{IsOutcome, IsReply, IsWritten}
use Rattle.shop_day.specs.Lines.{IsFailed}
use Rattle.shop_day.proofs.stepping.step_outcome.Goals as goal

pub answer_outcome-requires : goal.answer_outcome-requires
answer_outcome-requires g c = subst (λ (a : Answer). IsReply a.word) (sym c.in-Ok.ensures.answer) c.requires

pub returns-in-Ok-clause-done : goal.returns-in-Ok-clause-done
returns-in-Ok-clause-done g c =
    IfOk-weaker c.answer_outcome.result _ _ (λ outcome is. (Run, c.in-Ok.ensures.state, subst (λ a. IsOutcome (IsWritten a c.step.new.self.messages) IsFailed Run outcome) c.in-Ok.ensures.answer is)) c.answer_outcome.ensures

pub returns-in-Err-clause-done : goal.returns-in-Err-clause-done
returns-in-Err-clause-done g c =
    step_stopped c.args.what c.args.at c.args.shop.now c.step.new.self c.in-Err.refused c.fault_of.result c.in-Err.ensures.err c.in-Err.ensures.refused c.fault_of.ensures

pub returns-in-Ok-clause-happened : goal.returns-in-Ok-clause-happened
returns-in-Ok-clause-happened g c = on_err _ c.answer_outcome.result c.in-Ok.ensures.state
