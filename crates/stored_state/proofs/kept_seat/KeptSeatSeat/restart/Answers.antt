use Rattle.std.proofs.Common.{◌∙◌, ap}
use Rattle.stored_state.proofs.HeldSeats.{read_again}
use Rattle.stored_state.specs.Seat.{kept_in}
use Rattle.stored_state.proofs.kept_seat.KeptSeatSeat.restart.Goals as goal

pub invariant_of-self : goal.invariant_of-self
invariant_of-self g c = (read_again g.C.Controller.own_name g.C.StateForm.state_read g.K.Keep.is_honest g.K.Keep.held c.reload.result c.self.inside.beside c.reload.new.self c.self.invariant c.reload.ensures.honest c.reload.ensures.held c.reload.ensures.controller c.reload.ensures.shown c.reload.ensures.stale).0

pub returns-clause-state : goal.returns-clause-state
returns-clause-state g c = (read_again g.C.Controller.own_name g.C.StateForm.state_read g.K.Keep.is_honest g.K.Keep.held c.reload.result c.self.inside.beside c.reload.new.self c.self.invariant c.reload.ensures.honest c.reload.ensures.held c.reload.ensures.controller c.reload.ensures.shown c.reload.ensures.stale).1 ∙ ap (kept_in g.C.StateForm.state_read g.K.Keep.held) c.self.view_is
