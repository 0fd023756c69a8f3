use Rattle.std.proofs.Common.{[]}
use Rattle.job_picture.proofs.Lines.{IsSoFar}
use Rattle.file_commands.specs.Notes.{notes_on}
use Rattle.file_commands.proofs.notes.notes_on.Given as goal

abbrev pub invariant-loop-entry : goal.invariant-loop-entry
invariant-loop-entry l = IsSoFar notes_on l.entries l.entry-index [] l.notes.items
