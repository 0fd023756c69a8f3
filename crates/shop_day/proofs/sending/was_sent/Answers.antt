use Rattle.std.proofs.Common.{◌∙◌, ap, is_some, sym}
use Rattle.shop_day.proofs.Numbers.{some_copied}
use Rattle.shop_day.proofs.sending.was_sent.Goals as goal

pub returns : goal.returns
returns c = c.is_some.ensures ∙ sym (some_copied c.text_of_number.result) ∙ ap is_some c.text_of_number.ensures
