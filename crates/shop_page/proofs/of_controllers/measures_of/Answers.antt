use Rattle.std.proofs.Common.{append_assoc}
use Rattle.shop_page.specs.Metrics.{measures_of}
use Rattle.shop_page.proofs.of_controllers.measures_of.Goals as goal

pub returns : goal.returns
unfolding measures_of
returns c = simp append_assoc (rw (← c.in_ok-out.ensures, ← c.in_ok-waiting.ensures, ← c.in_ok-refused.ensures) c.format.ensures.ok)
