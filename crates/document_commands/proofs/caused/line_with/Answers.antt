use Rattle.std.proofs.Common.{append_assoc, rules}
use Rattle.document_commands.proofs.caused.line_with.Goals as goal

pub returns : goal.returns
returns c = simp append_assoc (search rules)
