use Rattle.std.proofs.Common.{◌≡◌, true}
use Rattle.stored_state.specs.TakingAll.{Gives}
use Rattle.stored_state.proofs.taking_all.take_each.Given as goal

-- what came so far was given to the controller
abbrev pub invariant-loop-coming : goal.invariant-loop-coming
invariant-loop-coming l =
    record {
      gives : Gives l.at l.yielded l.fn.controller l.given.items l.controller;
      same : l.is_same ≡ true → l.controller ≡ l.fn.controller;
    }
