use Rattle.std.proofs.Common.{sym, ap}
use Rattle.courier.proofs.Keeping.{IsConsistent-joined, flies-within, has-room, idle-flying}
use Rattle.courier.proofs.courier.Courier.settle_flight.Goals as goal

-- there is room for its turn: it has none while something is in flight
pub add-requires : goal.add-requires
add-requires c =
    let ds = c.self.inside.lines.items in
    let flies = rw (← c.self.view_is) at c.requires in
    λ _. has-room ds _ c.args.line c.self.invariant (flies-within ds c.args.line flies) (idle-flying ds c.args.line flies)

pub invariant_of-self : goal.invariant_of-self
invariant_of-self c =
    let ds = c.self.inside.lines.items in
    let line = c.args.line in
    let ended = c.settle-goes_on.ensures in
    let flies = rw (← c.self.view_is) at c.requires in
    let turn = ap (λ due. record { due = due; line = line }) (ap (λ d. d.due) (sym ended.value)) in
    IsConsistent-joined ds line c.settle-goes_on.new.self c.settle-goes_on.result (record { due = c.args.now; line = line }) c.self.inside.schedule c.add.new.self (flies-within ds line flies) ended.paced c.self.invariant (idle-flying ds line flies) ended.waits turn c.add.ensures
