use Rattle.job_picture.proofs.Lines.{IsSoFar}
use Rattle.jdf_commands.specs.WorldCommand.Run.{lines}
use Rattle.jdf_commands.proofs.world_command.world_output.push_lines.Given as goal

abbrev pub invariant-loop-answer : goal.invariant-loop-answer
invariant-loop-answer l = IsSoFar lines l.answers l.answer-index l.fn.text.items l.text.items
