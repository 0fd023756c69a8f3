use Rattle.std.proofs.Common.{append_assoc, rules}
use Rattle.file_commands.specs.Notes.{note_of}
use Rattle.file_commands.proofs.notes.note_of.Goals as goal

pub returns : goal.returns
unfolding note_of
returns c = simp append_assoc (search rules)
