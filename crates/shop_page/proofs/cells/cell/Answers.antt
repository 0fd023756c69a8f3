use Rattle.std.proofs.Common.{append_assoc}
use Rattle.shop_page.specs.Cells.{cell}
use Rattle.shop_page.proofs.cells.cell.Goals as goal

pub returns : goal.returns
unfolding cell
returns c = simp append_assoc (rw (← c.in_ok-text.ensures) c.format.ensures.ok)
