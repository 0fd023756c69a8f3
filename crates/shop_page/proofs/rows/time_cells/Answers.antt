use Rattle.std.proofs.Common.{append_assoc, rules}
use Rattle.shop_page.specs.Rows.{time_cells}
use Rattle.shop_page.proofs.rows.time_cells.Goals as goal

pub returns : goal.returns
unfolding time_cells
returns c = simp append_assoc (search rules)
