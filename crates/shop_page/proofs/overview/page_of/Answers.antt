use Rattle.std.proofs.Common.{append_assoc}
use Rattle.shop_page.specs.Cells.{foot}
use Rattle.shop_page.specs.Page.{page_of}
use Rattle.shop_page.proofs.overview.page_of.Goals as goal

pub returns : goal.returns
unfolding page_of foot
returns c = simp append_assoc (rw (← c.in_ok-head.ensures, ← c.in_ok-figures.ensures, ← c.in_ok-refused.ensures, ← c.in_ok-late.ensures, ← c.in_ok-out.ensures) c.format.ensures.ok)
