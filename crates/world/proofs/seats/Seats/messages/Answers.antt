use Rattle.std.proofs.Common.{map, subst}
use Rattle.world.proofs.Messages.Telling.{messages_told}
use Rattle.world.specs.State.{State, state}
use Rattle.world.specs.Telling.{AreTold}
use Rattle.world.proofs.seats.Seats.messages.Goals as goal

pub returns-clause-told : goal.returns-clause-told
returns-clause-told g c =
    let w : State = state (g.M.Seat.kept c.self.inside.master) (map g.W.Seat.kept c.self.inside.workers.items) c.self.inside.messages.messages in
    subst AreTold c.self.view_is (messages_told w c.self.invariant)
