use Rattle.std.proofs.Common.{◌≡◌}
use Rattle.std.specs.List.{flat_map}
use Rattle.stored_state.specs.Addressee.{name_of}
use Rattle.server_steps.specs.Journaled.{line_for, step_of_call, taken_from_result}
use Rattle.server_steps.proofs.journaling.given_lines.Given as goal

abbrev pub invariant-loop-call : goal.invariant-loop-call
invariant-loop-call l =
    l.lines.items ≡ flat_map (λ p. line_for (name_of l.controller) l.at (step_of_call p.0.now) (taken_from_result p.1.now)) l.yielded
