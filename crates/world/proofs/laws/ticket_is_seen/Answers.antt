use Rattle.world.proofs.Master.TicketSeen.{ticket_is_seen}
use Rattle.world.proofs.laws.ticket_is_seen.Goals as goal

pub returns : goal.returns
returns c = ticket_is_seen
