use Rattle.std.proofs.Common.{append_assoc}
use Rattle.shop_page.specs.Metrics.{measure}
use Rattle.shop_page.proofs.metrics.measure.Goals as goal

pub returns : goal.returns
unfolding measure
returns c = simp append_assoc (rw (← c.in_ok-help.ensures) c.format.ensures.ok)
