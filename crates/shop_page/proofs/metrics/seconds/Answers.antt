use Rattle.std.proofs.Common.{append_assoc, rules}
use Rattle.shop_page.specs.Metrics.{seconds}
use Rattle.shop_page.proofs.metrics.seconds.Goals as goal

pub returns : goal.returns
unfolding seconds
returns c = simp append_assoc (search rules)
