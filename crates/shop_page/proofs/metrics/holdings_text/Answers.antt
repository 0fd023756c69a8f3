use Rattle.std.proofs.Common.{append_assoc}
use Rattle.shop_page.specs.Metrics.{holdings_text}
use Rattle.shop_page.proofs.metrics.holdings_text.Goals as goal

pub returns : goal.returns
unfolding holdings_text
returns c = simp append_assoc (rw (← c.in_ok-held.ensures, ← c.in_ok-read.ensures, ← c.in_ok-unread.ensures) c.format.ensures.ok)
