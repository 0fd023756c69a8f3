use Rattle.std.proofs.Common.{append_assoc, rules}
use Rattle.document_commands.specs.CheckCommand.Verdict.{line_of}
use Rattle.document_commands.proofs.check_command.verdict.place_line.Goals as goal

pub returns : goal.returns
unfolding line_of
returns c = simp append_assoc (search rules)
