use Rattle.std.proofs.Common.{◌∙◌, ap}
use Rattle.stored_state.proofs.HeldSeats.{kept_so}
use Rattle.stored_state.specs.Seat.{kept_in}
use Rattle.world.proofs.beginning.new_seat.Goals as goal

pub of-requires-clause-honest : goal.of-requires-clause-honest
of-requires-clause-honest g c = c.in_ok-beside-in-Ok.ensures.honest ∙ c.in-Ok.ensures

pub of-requires-clause-again : goal.of-requires-clause-again
of-requires-clause-again g c = c.in_ok-beside-in-Ok.ensures.again (c.in_ok-beside-in-Ok.ensures.honest ∙ c.in-Ok.ensures)

pub returns-in_ok-beside-in-Ok : goal.returns-in_ok-beside-in-Ok
returns-in_ok-beside-in-Ok g c =
    ap (kept_in g.C.StateForm.state_read g.K.Keep.held) c.of.ensures
    ∙ kept_so g.C.Controller.own_name g.C.StateForm.state_read g.K.Keep.is_honest g.K.Keep.held c.in_ok-beside-in-Ok.beside c.in_ok-beside-in-Ok.beside.controller (c.in_ok-beside-in-Ok.ensures.again (c.in_ok-beside-in-Ok.ensures.honest ∙ c.in-Ok.ensures))
    ∙ c.in_ok-beside-in-Ok.ensures.controller
