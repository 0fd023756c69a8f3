use Rattle.std.proofs.Common.{append_assoc, rules}
use Rattle.world_script.proofs.answer.refusal_words.Goals as goal

pub returns : goal.returns
returns c = simp append_assoc (search rules)
