use Rattle.std.proofs.Common.{append_assoc}
use Rattle.shop_page.specs.Metrics.{works_text}
use Rattle.shop_page.proofs.metrics.works_text.Goals as goal

pub returns : goal.returns
unfolding works_text
returns c = simp append_assoc (rw (← c.in_ok-open.ensures, ← c.in_ok-waiting.ensures, ← c.in_ok-refused.ensures) c.format.ensures.ok)
