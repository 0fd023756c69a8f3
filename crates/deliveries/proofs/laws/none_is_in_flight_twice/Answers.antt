use Rattle.deliveries.proofs.Flights.{none-twice}
use Rattle.deliveries.proofs.laws.none_is_in_flight_twice.Goals as goal

pub returns : goal.returns
returns c = none-twice
