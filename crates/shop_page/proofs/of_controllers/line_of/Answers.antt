use Rattle.std.proofs.Common.{append_assoc}
use Rattle.shop_page.specs.Metrics.{line_of}
use Rattle.shop_page.proofs.of_controllers.line_of.Goals as goal

pub returns : goal.returns
unfolding line_of
returns c = simp append_assoc (rw (← c.in_ok-label.ensures) c.format.ensures.ok)
