-- What all controllers have out, and what of it is where at the courier.
use Rattle.std.specs.Prelude.{◌≡◌, ℕ, ◌==◌, ◌<◌, Bool, true, false, ◌&&◌, List, [], length}
use Rattle.std.specs.Prelude.{Option, Some, None, is_some, slice_index_or, if◌then◌else◌}
use Rattle.std.specs.Option.{option_and_then, option_map_or}
use Rattle.courier.specs.Destination.{Destination}
use Rattle.courier.specs.declared.flight.Flight.{Flight}
use Rattle.courier.specs.Table.{flies_at, flight_at, is_out, put}
use Rattle.deliveries.specs.declared.progress.Progress.{Progress}
use Rattle.deliveries.specs.declared.progress.Progress.TheVariants.{Waiting, Taken, Refused}
use Rattle.deliveries.specs.declared.thing.Thing.{Thing}
use Rattle.deliveries.specs.Outbox.{Outbox, progress_in}
use Rattle.deliveries.specs.Routes.{Routes, is_thing, line_of, thing_at}

-- the courier's destinations, of which the items are things by their numbers; the things; and the
-- outboxes by controller
pub record Ledger : Type 0 where
  pub destinations : List Destination
  pub routes : Routes
  pub outboxes : List Outbox

abbrev pub outbox_at : List Outbox → ℕ → Outbox
outbox_at boxes controller = slice_index_or boxes controller []

-- the progress of a thing, and none where it isn't out
abbrev pub progress_of : List Outbox → Thing → Option Progress
progress_of boxes thing = progress_in (outbox_at boxes thing.controller) thing.spawn

abbrev pub is_waiting : Option Progress → Bool
is_waiting None = false
is_waiting (Some Waiting) = true
is_waiting (Some Taken) = false
is_waiting (Some (Refused number)) = false

-- the thing that is in flight to a destination
abbrev pub thing_in_flight : List Destination → Routes → ℕ → Option Thing
thing_in_flight ds routes line = option_and_then (thing_at routes) (flight_at ds line)

-- the thing is in flight to the destination for which it is
abbrev pub is_flying : List Destination → Routes → Thing → ℕ → Bool
is_flying ds routes thing line =
    option_map_or (is_thing thing) (thing_in_flight ds routes line) false

-- the progress of all, with that of one thing changed where that is out; `None` drops it
abbrev pub progress_with : List Outbox → Thing → Option Progress → Thing → Option Progress
progress_with boxes one to thing =
    if is_thing one thing then option_and_then (λ _. to) (progress_of boxes thing)
    else progress_of boxes thing

-- the progress of a thing, if there is one, is changed where that is out
abbrev pub IsMarked : Option Thing → Option Progress → List Outbox → List Outbox → Type 0
IsMarked None to old new = new ≡ old
IsMarked (Some one) to old new =
    (thing : Thing) → progress_of new thing ≡ progress_with old one to thing

-- that of what is in flight to a destination
abbrev pub IsSettled : Ledger → ℕ → Option Progress → List Outbox → Type 0
IsSettled old line to new =
    IsMarked (thing_in_flight old.destinations old.routes line) to old.outboxes new

-- the destination for which a thing is behind a look: that which is told, unless it is in flight to
-- its own
abbrev pub line_for : List Destination → Routes → Thing → ℕ → ℕ
line_for ds routes thing told =
    option_map_or (λ line. if is_flying ds routes thing line then line else told)
    (line_of routes thing) told

-- what is to be given, if the courier gives this item: its thing, if that waits for this destination
abbrev pub is_for : Routes → Thing → ℕ → Bool
is_for routes thing line = option_map_or (λ l. l == line) (line_of routes thing) false

abbrev pub due_thing : Routes → List Outbox → Flight → Option Thing
due_thing routes boxes flight =
    option_and_then
    (λ thing. if is_for routes thing flight.line && is_waiting (progress_of boxes thing)
    then Some thing else None)
    (thing_at routes flight.item)

-- ---- what always holds

-- the thing stands in the line of the destination for which it is
pub record IsInLine (ds : List Destination) (routes : Routes) (one : Thing) : Type 0 where
  pub item : ℕ
  pub line : ℕ
  pub thing : thing_at routes item ≡ Some one
  pub route : line_of routes one ≡ Some line
  pub out : is_out ds line item ≡ true

-- what is in flight to a destination is for that
pub record IsBound (ds : List Destination) (routes : Routes) (line : ℕ) : Type 0 where
  pub thing : Thing
  pub flight : thing_in_flight ds routes line ≡ Some thing
  pub route : line_of routes thing ≡ Some line

-- each thing is for a destination that is there, and what is in flight to one is for that
pub record IsRouted (ds : List Destination) (routes : Routes) : Type 0 where
  pub within : (thing : Thing) (line : ℕ) → line_of routes thing ≡ Some line → line < length ds
  pub bound : (line : ℕ) → flies_at ds line ≡ true → IsBound ds routes line

-- a thing that is out has a destination, and stands in the line of that while it waits
pub record IsHeld (ds : List Destination) (routes : Routes) (one : Thing) (had : Option Progress) : Type 0 where
  pub known : is_some had ≡ true → is_some (line_of routes one) ≡ true
  pub waits : is_waiting had ≡ true → IsInLine ds routes one

-- both
pub record IsTied (ds : List Destination) (routes : Routes) (boxes : List Outbox) : Type 0 where
  pub routed : IsRouted ds routes
  pub held : (thing : Thing) → IsHeld ds routes thing (progress_of boxes thing)

-- a thing is put once more in the line of its destination
pub record IsPutAgain (one : Thing) (old : List Destination) (routes : Routes) (new : List Destination) : Type 0 where
  pub item : ℕ
  pub line : ℕ
  pub thing : thing_at routes item ≡ Some one
  pub route : line_of routes one ≡ Some line
  pub after : new ≡ put item old line
