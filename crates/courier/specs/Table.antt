-- What is out to all destinations, by their numbers, and which of it is next.
use Rattle.std.specs.Prelude.{◌≡◌, ℕ, ◌+◌, ◌≤◌, ◌<◌, ◌==◌, Bool, true, ◌&&◌, if◌then◌else◌}
use Rattle.std.specs.Prelude.{List, length, All, count_by, slice_index_or, slice_get, slice_set}
use Rattle.std.specs.Prelude.{Option, Some, None}
use Rattle.courier.specs.declared.TheConstants.{LAST_DELAY}
use Rattle.courier.specs.declared.flight.Flight.{Flight}
use Rattle.courier.specs.declared.turn.Turn.{Turn}
use Rattle.courier.specs.Destination.{Destination, IsPaced, after_start, flight_of, new_at, waits}
use Rattle.courier.specs.Destination.{with_item}
use Rattle.courier.specs.Items.{has}
use Rattle.courier.specs.Turns.{Turns, IsBefore, one_if, times}

-- that of a number, and one with nothing out where there is none
abbrev pub destination_at : List Destination → ℕ → Destination
destination_at ds line = slice_index_or ds line (new_at 0)

-- all of them, with that of a number changed
abbrev pub with_changed : (Destination → Destination) → List Destination → ℕ → List Destination
with_changed change ds line = slice_set ds line (change (destination_at ds line))

-- something may be sent to it
abbrev pub waits_at : List Destination → ℕ → Bool
waits_at ds line = waits (destination_at ds line)

-- something is in flight to it
abbrev pub flies_at : List Destination → ℕ → Bool
flies_at ds line = (destination_at ds line).flying

-- what is in flight to it
abbrev pub flight_at : List Destination → ℕ → Option ℕ
flight_at ds line = flight_of (destination_at ds line)

-- the item is out to it
abbrev pub is_out : List Destination → ℕ → ℕ → Bool
is_out ds line item = has item (destination_at ds line).items

-- the item is out to it, behind the others unless it was
abbrev pub put : ℕ → List Destination → ℕ → List Destination
put item ds line = if is_out ds line item then ds else with_changed (with_item item) ds line

-- ---- the next

-- when something may be sent to it
abbrev pub turn_at : List Destination → ℕ → Turn
turn_at ds line = record { due = (destination_at ds line).due; line = line }

-- it is the first item of a destination to which nothing is in flight, the moment of that has come,
-- and no other that waits comes before it
pub record IsNext (now : ℕ) (ds : List Destination) (flight : Flight) : Type 0 where
  pub within : flight.line < length ds
  pub waits : waits_at ds flight.line ≡ true
  pub item : slice_get (destination_at ds flight.line).items 0 ≡ Some flight.item
  pub come : (destination_at ds flight.line).due ≤ now
  pub first : (line : ℕ) → waits_at ds line ≡ true
      → IsBefore (turn_at ds flight.line) (turn_at ds line)

-- no moment has come
abbrev pub IsQuiet : ℕ → List Destination → Type 0
IsQuiet now ds = (line : ℕ) → waits_at ds line ≡ true → now < (destination_at ds line).due

abbrev pub IsNextOrQuiet : ℕ → List Destination → Option Flight → Type 0
IsNextOrQuiet now ds None = IsQuiet now ds
IsNextOrQuiet now ds (Some flight) = IsNext now ds flight

-- what is given is in flight
abbrev pub after_next : List Destination → Option Flight → List Destination
after_next ds None = ds
after_next ds (Some flight) = with_changed after_start ds flight.line

-- what waits was tried less than the longest delay ago
abbrev pub AreTried : ℕ → List Destination → Type 0
AreTried now ds =
    (line : ℕ) → waits_at ds line ≡ true → now < (destination_at ds line).since + LAST_DELAY

-- when the next may be sent: none waits, or one waits till then and none less
abbrev pub IsWake : List Destination → Option ℕ → Type 0
IsWake ds None = (line : ℕ) → waits_at ds line ≡ true → ⊥
IsWake ds (Some due) =
    ((line : ℕ) → waits_at ds line ≡ true → due ≤ (destination_at ds line).due)
    × ((line : ℕ) × (waits_at ds line ≡ true) × ((destination_at ds line).due ≡ due))

-- ---- the schedule

abbrev pub has_turn : List Destination → Turn → Bool
has_turn ds turn = waits_at ds turn.line && (destination_at ds turn.line).due == turn.due

-- what always holds: each is paced, the turns are those of the ones that wait, each of them once,
-- and there is room for all
pub record IsConsistent (ds : List Destination) (schedule : Turns) : Type 0 where
  pub paced : All IsPaced ds
  pub scheduled : (turn : Turn) → times turn schedule.turns ≡ one_if (has_turn ds turn)
  pub many : length schedule.turns ≡ count_by waits ds
  pub room : length ds ≤ schedule.room
