use Rattle.std.proofs.Common.{◌≡◌, map, take}
use Rattle.server_steps.specs.Journaled.{called_of_coming, step_of_call}
use Rattle.server_steps.proofs.journaling.calls_of_comings.Given as goal

abbrev pub invariant-loop-coming : goal.invariant-loop-coming
invariant-loop-coming g l = map step_of_call l.calls.items ≡ map (λ x. called_of_coming x) (take l.coming-index l.comings)
