use Rattle.std.proofs.Common.{◌≡◌, ◌∙◌, inr, is_some, true, false, sym}
use Rattle.std.proofs.lemmas.Result.{IfOk-weaker, on_err_weaker}
use Rattle.world.specs.State.{message_at}
use Rattle.shop_day.proofs.Asked.{message_replies}
use Rattle.shop_day.proofs.Numbers.{texts_numbered}
use Rattle.shop_day.proofs.Stops.{message_done, message_missing}
use Rattle.shop_day.proofs.doing.take_outcome.Goals as goal

pub returns-then-not-was_sent-clause-done : goal.returns-then-not-was_sent-clause-done
returns-then-not-was_sent-clause-done g c =
    let none : is_some (message_at c.args.shop.now.messages c.args.number) ≡ false = sym (texts_numbered c.messages.result.now c.args.shop.now.messages c.args.number c.messages.ensures.texts) ∙ sym c.was_sent.ensures ∙ c.if-not-was_sent.true in
    message_missing c.args.number c.args.at c.args.shop.now none

pub step_outcome-requires : goal.step_outcome-requires
step_outcome-requires g c =
    let there : is_some (message_at c.args.shop.now.messages c.args.number) ≡ true = sym (texts_numbered c.messages.result.now c.args.shop.now.messages c.args.number c.messages.ensures.texts) ∙ sym c.was_sent.ensures ∙ c.if-not-was_sent.false in
    message_replies c.args.shop.now c.args.number c.args.at c.messages.ensures.kept there

pub returns-clause-done : goal.returns-clause-done
returns-clause-done g c =
    let there : is_some (message_at c.args.shop.now.messages c.args.number) ≡ true = sym (texts_numbered c.messages.result.now c.args.shop.now.messages c.args.number c.messages.ensures.texts) ∙ sym c.was_sent.ensures ∙ c.if-not-was_sent.false in
    IfOk-weaker c.step_outcome.result _ _ (λ outcome came. message_done c.args.number c.args.at c.args.shop.now c.step_outcome.new.shop outcome there came) c.step_outcome.ensures.done

pub returns-clause-untold : goal.returns-clause-untold
returns-clause-untold g c = on_err_weaker c.step_outcome.result (λ happened. inr happened) c.step_outcome.ensures.happened
