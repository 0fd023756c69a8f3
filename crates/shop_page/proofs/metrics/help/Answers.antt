use Rattle.std.proofs.Common.{append_assoc, rules}
use Rattle.shop_page.specs.Metrics.{help}
use Rattle.shop_page.proofs.metrics.help.Goals as goal

pub returns : goal.returns
unfolding help
returns c = simp append_assoc (search rules)
