use Rattle.std.proofs.Common.{◌≡◌, map, take}
use Rattle.server_steps.specs.Journaled.{called_of_coming, step_of_call}
use Rattle.rounds.specs.Line.{coming_in}
use Rattle.server_steps.proofs.journaling.calls_of_errands.Given as goal

abbrev pub invariant-loop-errand : goal.invariant-loop-errand
invariant-loop-errand g l = map step_of_call l.calls.items ≡ map (λ e. called_of_coming (coming_in e)) (take l.errand-index l.errands)
