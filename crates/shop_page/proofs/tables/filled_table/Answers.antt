use Rattle.std.proofs.Common.{append_assoc, rules}
use Rattle.shop_page.specs.Page.{filled_table}
use Rattle.shop_page.proofs.tables.filled_table.Goals as goal

pub returns : goal.returns
unfolding filled_table
returns c = simp append_assoc (search rules)
