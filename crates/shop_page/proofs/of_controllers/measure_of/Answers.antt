use Rattle.shop_page.specs.Metrics.{measure_of}
use Rattle.shop_page.proofs.of_controllers.measure_of.Goals as goal

pub returns : goal.returns
unfolding measure_of
returns c = rw (← c.in_ok-help.ensures, ← c.in_ok-lines.ensures) c.format.ensures.ok
