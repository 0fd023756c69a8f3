use Rattle.std.proofs.Common.{append_assoc}
use Rattle.shop_page.specs.Metrics.{turns_text}
use Rattle.shop_page.proofs.metrics.turns_text.Goals as goal

pub returns : goal.returns
unfolding turns_text
returns c = simp append_assoc (rw (← c.in_ok-help.ensures, ← c.in_ok-seconds.ensures) c.format.ensures.ok)
