use Rattle.std.proofs.Common.{◌∙◌, None, Some, ap, sym}
use Rattle.std.specs.Option.{option_copied}
use Rattle.jdf_loop.proofs.LongTexts.{long_at}
use Rattle.jdf_loop.specs.Losses.{is_too_long}
use Rattle.jdf_loop.proofs.losses.is_message_too_long.Goals as goal

pub returns-in-None : goal.returns-in-None
returns-in-None c =
    long_at c.messages.result.now c.args.shop.now.messages c.args.number None c.messages.ensures.texts (ap option_copied (sym c.in-None.is) ∙ c.text_of_number.ensures)

pub returns-in-Some : goal.returns-in-Some
returns-in-Some c =
    c.is_too_long.ensures
    ∙ ap is_too_long c.as_slice.ensures.value
    ∙ long_at c.messages.result.now c.args.shop.now.messages c.args.number (Some c.in-Some.text.now) c.messages.ensures.texts (ap option_copied (sym c.in-Some.is) ∙ c.text_of_number.ensures)
