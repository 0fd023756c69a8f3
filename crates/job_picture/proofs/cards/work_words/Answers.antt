use Rattle.std.proofs.Common.{append_assoc, rules}
use Rattle.job_picture.specs.Cards.{work_words}
use Rattle.job_picture.proofs.cards.work_words.Goals as goal

pub returns : goal.returns
unfolding work_words
returns c = simp append_assoc (search rules)
