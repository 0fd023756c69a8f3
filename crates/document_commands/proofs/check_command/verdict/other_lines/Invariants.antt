use Rattle.document_commands.specs.CheckCommand.Verdict.{AreOthers}
use Rattle.document_commands.proofs.check_command.verdict.other_lines.Given as goal

abbrev pub invariant-loop-other : goal.invariant-loop-other
invariant-loop-other l = AreOthers l.refusal l.text.items
