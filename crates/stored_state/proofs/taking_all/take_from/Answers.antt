use Rattle.stored_state.proofs.TakingEach.{as_many}
use Rattle.stored_state.proofs.taking_all.take_from.Goals as goal

pub returns-then-is_same-clause-each : goal.returns-then-is_same-clause-each
returns-then-is_same-clause-each c =
    as_many c.args.at c.args.all.items c.in_ok-controller.controller c.take_each.new.controller c.in-Ok.taken.0.items c.in-Ok.ensures.gives

pub returns-in-Ok-of-clause-each : goal.returns-in-Ok-of-clause-each
returns-in-Ok-of-clause-each c =
    as_many c.args.at c.args.all.items c.in_ok-controller.controller c.take_each.new.controller c.in-Ok.taken.0.items c.in-Ok.ensures.gives

pub returns-then-are_none-clause-each : goal.returns-then-are_none-clause-each
returns-then-are_none-clause-each c =
    as_many c.args.at c.args.all.items c.in_ok-controller.controller c.take_each.new.controller c.in-Ok.taken.0.items c.in-Ok.ensures.gives
