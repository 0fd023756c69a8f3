use Rattle.std.proofs.Common.{◌∙◌, ap, sym}
use Rattle.std.proofs.lemmas.Result.{IfOk-weaker}
use Rattle.shop_day.proofs.Numbers.{same_at}
use Rattle.shop_day.specs.Done.{text_at}
use Rattle.shop_day.proofs.sending.text_sent.Goals as goal

pub returns-in-Some : goal.returns-in-Some
returns-in-Some g c =
    IfOk-weaker c.text_copied.result _ _ (λ text is. is ∙ same_at c.messages.result.now c.args.shop.now.messages c.in-Some.number c.messages.ensures.texts ∙ ap (text_at c.args.shop.now.messages) (sym c.in-Some.is)) c.text_copied.ensures
