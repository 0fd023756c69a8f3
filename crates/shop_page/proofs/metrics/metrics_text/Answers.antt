use Rattle.std.proofs.Common.{append_assoc}
use Rattle.shop_page.specs.Metrics.{metrics_text}
use Rattle.shop_page.proofs.metrics.metrics_text.Goals as goal

pub returns : goal.returns
unfolding metrics_text
returns c = simp append_assoc (rw (← c.in_ok-requests.ensures, ← c.in_ok-turns.ensures, ← c.in_ok-saves.ensures, ← c.in_ok-holdings.ensures, ← c.in_ok-works.ensures, ← c.in_ok-each.ensures) c.format.ensures.ok)
