use Rattle.shop_page.specs.Metrics.{requests_text}
use Rattle.shop_page.proofs.metrics.requests_text.Goals as goal

pub returns : goal.returns
unfolding requests_text
returns c = rw (← c.in_ok-help.ensures, ← c.in_ok-lines.ensures) c.format.ensures.ok
