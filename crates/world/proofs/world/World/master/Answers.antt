use Rattle.std.proofs.Common.{◌∙◌, ap}
use Rattle.spawn.specs.Marking.{marks}
use Rattle.master_core.specs.Master.{State as MasterState}
use Rattle.plain_shop.specs.SeenTicket.{ticket_seen}
use Rattle.plain_shop.specs.Marks.{shop_marks}
use Rattle.world.specs.Showing.{shows}
use Rattle.world.specs.State.{State}
use Rattle.world.proofs.world.World.master.Goals as goal

pub returns-clause-seen : goal.returns-clause-seen
returns-clause-seen c = ap (λ (m : MasterState). m.ticket) c.controller.ensures ∙ c.master_seat.ensures.seen ∙ ap (λ (v : State). ticket_seen (shows v).shop) c.self.view_is

pub returns-clause-marks : goal.returns-clause-marks
returns-clause-marks c = ap (λ (m : MasterState). marks m.ticket.rows m.records) c.controller.ensures ∙ c.master_seat.ensures.marks ∙ ap (λ (v : State). shop_marks (shows v).shop) c.self.view_is
