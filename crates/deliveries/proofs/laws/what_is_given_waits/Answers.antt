use Rattle.deliveries.proofs.Flights.{given-waits}
use Rattle.deliveries.proofs.laws.what_is_given_waits.Goals as goal

pub returns : goal.returns
returns c = given-waits
