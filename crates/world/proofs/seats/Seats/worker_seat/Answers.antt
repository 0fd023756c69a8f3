use Rattle.std.proofs.Common.{◌∙◌, ap, map}
use Rattle.std.specs.Option.{option_map}
use Rattle.world.proofs.Runs.Seated.{found_seen}
use Rattle.world.specs.State.{State, worker_of}
use Rattle.world.proofs.seats.Seats.worker_seat.Goals as goal

pub returns : goal.returns
returns g c =
    let name = c.args.name.now in
    ap (option_map g.W.Seat.kept) c.seat_of.ensures
    ∙ found_seen g.W.Seat.kept name c.as_slice.result.now
    ∙ ap (λ ws. worker_of (map g.W.Seat.kept ws) name) c.as_slice.ensures.value
    ∙ ap (λ (v : State). worker_of v.controllers.workers name) c.self.view_is
