use Rattle.std.proofs.Common.{append_assoc, rules}
use Rattle.job_picture.specs.Cards.{card_node}
use Rattle.job_picture.proofs.cards.card_node.Goals as goal

pub returns : goal.returns
unfolding card_node
returns c = simp append_assoc (search rules)
