use Rattle.std.proofs.Common.{◌≡◌, map, subst, sym}
use Rattle.spawn.specs.Marking.{marks}
use Rattle.world.proofs.Master.MarksShown.{marks_are_shown}
use Rattle.world.proofs.Master.TicketSeen.{ticket_is_seen}
use Rattle.plain_shop.specs.SeenTicket.{ticket_seen}
use Rattle.plain_shop.specs.Marks.{shop_marks}
use Rattle.world.specs.Showing.{shop_shown}
use Rattle.world.specs.State.{State, state}
use Rattle.world.proofs.seats.Seats.master_seat.Goals as goal

pub returns-clause-seen : goal.returns-clause-seen
returns-clause-seen g c =
    let w : State = state (g.M.Seat.kept c.self.inside.master) (map g.W.Seat.kept c.self.inside.workers.items) c.self.inside.messages.messages in
    subst (λ (v : State). w.controllers.master.ticket ≡ ticket_seen (shop_shown v.controllers)) c.self.view_is (sym (ticket_is_seen w c.self.invariant))

pub returns-clause-marks : goal.returns-clause-marks
returns-clause-marks g c =
    let w : State = state (g.M.Seat.kept c.self.inside.master) (map g.W.Seat.kept c.self.inside.workers.items) c.self.inside.messages.messages in
    subst (λ (v : State). marks w.controllers.master.ticket.rows w.controllers.master.records ≡ shop_marks (shop_shown v.controllers)) c.self.view_is (sym (marks_are_shown w c.self.invariant))
