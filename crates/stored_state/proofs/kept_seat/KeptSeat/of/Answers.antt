use Rattle.stored_state.proofs.HeldSeats.{fresh_seat}
use Rattle.stored_state.proofs.kept_seat.KeptSeat.of.Goals as goal

pub invariant_of-result : goal.invariant_of-result
invariant_of-result g c = fresh_seat g.C.Controller.own_name g.C.StateForm.state_read g.K.Keep.is_honest g.K.Keep.held c.args.beside c.requires.honest c.requires.again
