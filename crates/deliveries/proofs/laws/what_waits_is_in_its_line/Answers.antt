use Rattle.deliveries.proofs.Flights.{waits-in-line}
use Rattle.deliveries.proofs.laws.what_waits_is_in_its_line.Goals as goal

pub returns : goal.returns
returns c = waits-in-line
