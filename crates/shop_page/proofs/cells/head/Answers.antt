use Rattle.std.proofs.Common.{append_assoc}
use Rattle.shop_page.specs.Cells.{head}
use Rattle.shop_page.proofs.cells.head.Goals as goal

pub returns : goal.returns
unfolding head
returns c = simp append_assoc (rw (← c.in_ok-title.ensures) c.format.ensures.ok)
