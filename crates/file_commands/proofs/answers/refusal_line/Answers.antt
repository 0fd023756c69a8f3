use Rattle.std.proofs.Common.{append_assoc, rules}
use Rattle.file_commands.specs.Answers.{refusal_line}
use Rattle.file_commands.proofs.answers.refusal_line.Goals as goal

pub returns : goal.returns
unfolding refusal_line
returns c = simp append_assoc (search rules)
