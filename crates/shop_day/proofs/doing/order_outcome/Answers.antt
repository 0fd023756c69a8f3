use Rattle.std.proofs.Common.{◌≡◌, Some, subst}
use Rattle.std.proofs.lemmas.Result.{IfOk-weaker, on_err_weaker}
use Rattle.world.specs.Showing.{shows}
use Rattle.shop_day.proofs.Asked.{order_replies}
use Rattle.shop_day.proofs.Stops.{order_done, order_refused, order_untold}
use Rattle.shop_day.specs.Lines.{order_in}
use Rattle.shop_day.proofs.doing.order_outcome.Goals as goal

pub step_outcome-requires : goal.step_outcome-requires
step_outcome-requires g c = order_replies c.args.shop.now c.args.name c.as_slice.result.now c.in-Ok.what c.args.at c.asked_of.ensures.kept c.in-Ok.ensures.ok

pub returns-in-Ok-clause-done : goal.returns-in-Ok-clause-done
returns-in-Ok-clause-done g c =
    let asked = subst (λ bytes. order_in (shows c.args.shop.now).shop c.args.name bytes ≡ Some c.in-Ok.what) c.as_slice.ensures.value c.in-Ok.ensures.ok in
    IfOk-weaker c.step_outcome.result _ _ (λ outcome came. order_done c.args.name c.args.bytes c.args.at c.in-Ok.what c.args.shop.now c.step_outcome.new.shop outcome asked came) c.step_outcome.ensures.done

pub returns-in-Ok-clause-untold : goal.returns-in-Ok-clause-untold
returns-in-Ok-clause-untold g c =
    let asked = subst (λ bytes. order_in (shows c.args.shop.now).shop c.args.name bytes ≡ Some c.in-Ok.what) c.as_slice.ensures.value c.in-Ok.ensures.ok in
    on_err_weaker c.step_outcome.result (order_untold c.args.name c.args.bytes c.args.at c.in-Ok.what c.args.shop.now c.step_outcome.new.shop asked) c.step_outcome.ensures.happened

pub returns-clause-done : goal.returns-clause-done
returns-clause-done g c =
    order_refused c.args.name c.args.bytes c.args.at c.args.shop.now c.in-Err.fault c.as_slice.result.now c.as_slice.ensures.value c.in-Err.ensures.refused
