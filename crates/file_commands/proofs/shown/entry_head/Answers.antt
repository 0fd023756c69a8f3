use Rattle.std.proofs.Common.{append_assoc, rules}
use Rattle.file_commands.proofs.shown.entry_head.Goals as goal

pub returns : goal.returns
returns c = simp append_assoc (search rules)
