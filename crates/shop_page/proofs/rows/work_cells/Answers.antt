use Rattle.std.proofs.Common.{append_assoc, rules}
use Rattle.shop_page.specs.Rows.{work_cells}
use Rattle.shop_page.proofs.rows.work_cells.Goals as goal

pub returns : goal.returns
unfolding work_cells
returns c = simp append_assoc (search rules)
