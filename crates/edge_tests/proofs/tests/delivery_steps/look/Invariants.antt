use Rattle.std.proofs.Common.{◌<◌, length}
use Rattle.std.specs.Prelude.{All}
use Rattle.edge_tests.proofs.tests.delivery_steps.look.Given as goal

abbrev pub invariant-loop-number : goal.invariant-loop-number
invariant-loop-number l = All (λ o. o.1 < length l.deliveries.destinations) l.told.items
