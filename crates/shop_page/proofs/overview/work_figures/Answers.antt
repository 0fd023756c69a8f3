use Rattle.std.proofs.Common.{append_assoc}
use Rattle.shop_page.specs.Page.{work_figures}
use Rattle.shop_page.proofs.overview.work_figures.Goals as goal

pub returns : goal.returns
unfolding work_figures
returns c = simp append_assoc (rw (← c.in_ok-out.ensures, ← c.in_ok-late.ensures, ← c.in_ok-refused.ensures, ← c.in_ok-closed.ensures) c.format.ensures.ok)
