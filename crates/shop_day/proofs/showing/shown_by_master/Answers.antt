use Rattle.std.proofs.Common.{◌∙◌, ap}
use Rattle.controller_form.specs.ShownMaster.{master_text}
use Rattle.shop_day.proofs.showing.shown_by_master.Goals as goal

pub returns-in_ok-master_text-in-Some : goal.returns-in_ok-master_text-in-Some
returns-in_ok-master_text-in-Some g c = c.in_ok-master_text-in-Some.ensures ∙ ap master_text c.in-Some.ensures.master
