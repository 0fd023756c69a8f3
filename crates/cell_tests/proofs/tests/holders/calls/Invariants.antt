-- Each call so far is of a holder that is there.
use Rattle.std.proofs.Common.{◌<◌}
use Rattle.std.specs.Prelude.{All}
use Rattle.cell_tests.proofs.tests.holders.calls.Given as goal

abbrev pub invariant-loop-is_second : goal.invariant-loop-is_second
invariant-loop-is_second l = All (λ call. call.holder < 2) l.made.items
