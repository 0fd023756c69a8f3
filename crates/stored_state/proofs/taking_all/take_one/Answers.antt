use Rattle.std.proofs.Common.{Err, refl}
use Rattle.stored_state.proofs.taking_all.take_one.Goals as goal

pub returns-in-Message-clause-gives : goal.returns-in-Message-clause-gives
returns-in-Message-clause-gives c = rw c.in-Message.is c.take_message.ensures.gives

pub returns-in-Order-clause-gives : goal.returns-in-Order-clause-gives
returns-in-Order-clause-gives c = rw c.in-Order.is c.take_order.ensures.gives

pub returns-in-Neither-clause-gives : goal.returns-in-Neither-clause-gives
returns-in-Neither-clause-gives c =
    rw c.in-Neither.is (record { step = Err c.in-Neither.refusal; takes = (refl, refl); gives = refl; sender = tt })
