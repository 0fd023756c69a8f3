-- Laws of what is out and in flight, where all is tied as it always is.
use Rattle.std.specs.Prelude.{◌≡◌, ℕ, List, Some}
use Rattle.courier.specs.Destination.{Destination}
use Rattle.deliveries.specs.declared.progress.Progress.TheVariants.{Waiting}
use Rattle.deliveries.specs.declared.thing.Thing.{Thing}
use Rattle.deliveries.specs.declared.flight.Flight.{Flight}
use Rattle.deliveries.specs.Ledger.{IsInLine, IsTied, progress_of, thing_in_flight}
use Rattle.deliveries.specs.Outbox.{Outbox}
use Rattle.deliveries.specs.Routes.{Routes, line_of}
use Rattle.deliveries.specs.Sending.{IsGiven}

-- the thing that is given
abbrev pub given_thing : Flight → Thing
given_thing flight = record { controller = flight.controller; spawn = flight.spawn }

pub record IsWaitingFor (routes : Routes) (boxes : List Outbox) (flight : Flight) : Type 0 where
  pub out : progress_of boxes (given_thing flight) ≡ Some Waiting
  pub route : line_of routes (given_thing flight) ≡ Some flight.line

-- what is given is out, waits, and is for that destination
abbrev pub GivenWaits : Type 0
GivenWaits =
    (now : ℕ) (routes : Routes) (boxes : List Outbox) (old new : List Destination) (flight : Flight)
    → IsGiven now routes boxes old new (Some flight)
    → IsWaitingFor routes boxes flight

-- a thing is in flight to one destination
abbrev pub NoneTwice : Type 0
NoneTwice =
    (ds : List Destination) (routes : Routes) (boxes : List Outbox) (thing : Thing) (a b : ℕ)
    → IsTied ds routes boxes
    → thing_in_flight ds routes a ≡ Some thing
    → thing_in_flight ds routes b ≡ Some thing
    → a ≡ b

-- what waits stands in the line of its destination
abbrev pub WaitsInLine : Type 0
WaitsInLine =
    (ds : List Destination) (routes : Routes) (boxes : List Outbox) (thing : Thing)
    → IsTied ds routes boxes
    → progress_of boxes thing ≡ Some Waiting
    → IsInLine ds routes thing
