use Rattle.std.proofs.Common.{append_assoc}
use Rattle.shop_page.specs.Cells.{link_cell}
use Rattle.shop_page.proofs.cells.link_cell.Goals as goal

pub returns : goal.returns
unfolding link_cell
returns c = simp append_assoc (rw (← c.in_ok-name.ensures) c.format.ensures.ok)
