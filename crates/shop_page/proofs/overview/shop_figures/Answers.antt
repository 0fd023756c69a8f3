use Rattle.std.proofs.Common.{append_assoc}
use Rattle.shop_page.specs.Page.{shop_figures}
use Rattle.shop_page.proofs.overview.shop_figures.Goals as goal

pub returns : goal.returns
unfolding shop_figures
returns c = simp append_assoc (rw (← c.in_ok-moment.ensures) c.format.ensures.ok)
