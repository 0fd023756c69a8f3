use Rattle.std.proofs.Common.{◌≡◌, ◌++◌, drop}
use Rattle.std.specs.List.{flat_map}
use Rattle.document_commands.specs.CheckCommand.Verdict.{line_of}
use Rattle.document_commands.proofs.check_command.verdict.push_lines.Given as goal

-- what was appended so far, and what comes of the rest, is what comes of all
abbrev pub invariant-loop-place : goal.invariant-loop-place
invariant-loop-place l =
    l.text.items ++ flat_map (line_of l.named) (drop l.place-index l.places) ≡ l.fn.text.items ++ flat_map (line_of l.named) l.places
