use Rattle.job_picture.proofs.Lines.{IsSoFar}
use Rattle.file_commands.specs.Shown.{entry_lines}
use Rattle.file_commands.proofs.shown.push_entries.Given as goal

abbrev pub invariant-loop-entry : goal.invariant-loop-entry
invariant-loop-entry l = IsSoFar entry_lines l.entries l.entry-index l.fn.text.items l.text.items
