use Rattle.std.proofs.Common.{append_assoc, rules}
use Rattle.job_picture.specs.Cards.{card_head}
use Rattle.job_picture.proofs.cards.card_head.Goals as goal

pub returns : goal.returns
unfolding card_head
returns c = simp append_assoc (search rules)
