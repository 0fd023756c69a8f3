use Rattle.std.proofs.Common.{append_assoc}
use Rattle.shop_page.specs.Cells.{controller_page, foot}
use Rattle.shop_page.proofs.picture_page.controller_page.Goals as goal

pub returns : goal.returns
unfolding controller_page foot
returns c = simp append_assoc (rw (← c.in_ok-head.ensures) c.format.ensures.ok)
