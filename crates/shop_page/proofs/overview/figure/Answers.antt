use Rattle.std.proofs.Common.{append_assoc, rules}
use Rattle.shop_page.specs.Page.{figure}
use Rattle.shop_page.proofs.overview.figure.Goals as goal

pub returns : goal.returns
unfolding figure
returns c = simp append_assoc (search rules)
