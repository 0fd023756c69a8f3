use Rattle.std.proofs.Common.{◌∙◌, Some, ap, sym}
use Rattle.std.specs.Option.{option_copied, option_map}
use Rattle.std.specs.Global.{Vec}
use Rattle.shop_day.proofs.sending.text_copied.Goals as goal

pub returns-in-None : goal.returns-in-None
returns-in-None c = ap (option_map (λ (t : Vec _). t.items)) (ap option_copied (sym c.in-None.is) ∙ c.text_of_number.ensures)

pub returns-in_ok-from_slice-in-Some : goal.returns-in_ok-from_slice-in-Some
returns-in_ok-from_slice-in-Some c = ap Some (c.in_ok-from_slice-in-Some.ensures.items ∙ c.as_slice.ensures.value) ∙ ap (option_map (λ (t : Vec _). t.items)) (ap option_copied (sym c.in-Some.is) ∙ c.text_of_number.ensures)
