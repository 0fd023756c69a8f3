use Rattle.std.proofs.Common.{append_assoc}
use Rattle.job_picture.specs.Cards.{card}
use Rattle.job_picture.proofs.cards.card.Goals as goal

pub returns : goal.returns
unfolding card
returns c = simp append_assoc (rw (← c.in_ok-words.ensures, ← c.shade-colour.ensures, ← c.in_ok-head.ensures, ← c.in_ok-node.ensures, ← c.in_ok-foot.ensures) c.format.ensures.ok)
