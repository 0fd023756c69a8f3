use Rattle.std.proofs.Common.{append_assoc, rules}
use Rattle.job_picture.specs.Cards.{card_foot}
use Rattle.job_picture.proofs.cards.card_foot.Goals as goal

pub returns : goal.returns
unfolding card_foot
returns c = simp append_assoc (search rules)
