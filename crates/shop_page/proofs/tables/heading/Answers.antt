use Rattle.std.proofs.Common.{append_assoc, rules}
use Rattle.shop_page.specs.Page.{heading}
use Rattle.shop_page.proofs.tables.heading.Goals as goal

pub returns : goal.returns
unfolding heading
returns c = simp append_assoc (search rules)
