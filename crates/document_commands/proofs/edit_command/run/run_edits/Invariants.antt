use Rattle.std.proofs.Common.{length}
use Rattle.document_commands.proofs.Runs.{IsRunSoFar}
use Rattle.document_commands.proofs.edit_command.run.run_edits.Given as goal

abbrev pub invariant-loop-edit : goal.invariant-loop-edit
invariant-loop-edit l = IsRunSoFar l.fn.ticket l.at l.fn.edits.items (length l.yielded) l.ticket l.fn.text.items l.text.items l.refused
