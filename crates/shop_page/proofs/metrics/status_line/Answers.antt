use Rattle.std.proofs.Common.{append_assoc, rules}
use Rattle.shop_page.specs.Metrics.{status_line}
use Rattle.shop_page.proofs.metrics.status_line.Goals as goal

pub returns : goal.returns
unfolding status_line
returns c = simp append_assoc (search rules)
