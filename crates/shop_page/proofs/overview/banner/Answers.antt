use Rattle.std.proofs.Common.{append_assoc}
use Rattle.shop_page.specs.Page.{banner}
use Rattle.shop_page.proofs.overview.banner.Goals as goal

pub returns : goal.returns
unfolding banner
returns c = simp append_assoc (rw (← c.in_ok-path.ensures) c.format.ensures.ok)
