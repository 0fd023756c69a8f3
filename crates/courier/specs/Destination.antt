-- What is out to one destination, and what becomes of it.
use Rattle.std.specs.Prelude.{◌≡◌, ℕ, ◌+◌, ◌*◌, ◌≤◌, ◌<◌, ◌^◌, ◌-◌, ◌==◌, min}
use Rattle.std.specs.Prelude.{Bool, true, false, not, ◌&&◌, List, [], ◌∷◌, ◌++◌, length, take, drop}
use Rattle.std.specs.Prelude.{Option, None, slice_get, if◌then◌else◌}
use Rattle.std.specs.BTreeSet.{BTreeSet}
use Rattle.courier.specs.declared.TheConstants.{FIRST_DELAY, LAST_DELAY}
use Rattle.courier.specs.Items.{all_differ, IsSetOf}

-- the items that are out, the next one first; whether that one is in flight; when the next may be
-- sent; when the last try ended; and how long is waited behind a failure (milliseconds)
pub record Destination : Type 0 where
  pub items : List ℕ
  pub flying : Bool
  pub due : ℕ
  pub since : ℕ
  pub delay : ℕ

-- something may be sent: there is some, and none is in flight
abbrev pub waits : Destination → Bool
waits d = not d.flying && not (length d.items == 0)

-- what is in flight
abbrev pub flight_of : Destination → Option ℕ
flight_of d = if d.flying then slice_get d.items 0 else None

-- a new one, with nothing out
abbrev pub new_at : ℕ → Destination
new_at now = record { items = []; flying = false; due = now; since = now; delay = FIRST_DELAY }

-- one more item is out
abbrev pub with_item : ℕ → Destination → Destination
with_item item d = record d { items = d.items ++ item ∷ [] }

-- the first is in flight
abbrev pub after_start : Destination → Destination
after_start d = record d { flying = true }

-- the try failed: its item goes behind the others, and the next waits, twice as long each time
abbrev pub after_failed_try : ℕ → Destination → Destination
after_failed_try now d =
    record {
      items = drop 1 d.items ++ take 1 d.items;
      flying = false;
      due = min (now + d.delay) (2 ^ 64 - 1);
      since = now;
      delay = min (2 * d.delay) LAST_DELAY;
    }

-- it was answered: its item is out no longer, and the next may be sent at once
abbrev pub after_answer : ℕ → Destination → Destination
after_answer now d =
    record {
      items = drop 1 d.items;
      flying = false;
      due = now;
      since = now;
      delay = FIRST_DELAY;
    }

-- it was heard from: the next may be sent at once, and a failure waits the first delay again
abbrev pub after_hearing : ℕ → Destination → Destination
after_hearing now d = record d { due = min d.due now; delay = FIRST_DELAY }

-- it wasn't sent, since it is out no longer
abbrev pub after_withdrawal : Destination → Destination
after_withdrawal d = record d { items = drop 1 d.items; flying = false }

-- what always holds: a delay is one of the allowed, the next is due no later than the longest delay
-- behind the last try, what is in flight is out, and nothing is out twice
pub record IsPaced (d : Destination) : Type 0 where
  pub long : FIRST_DELAY ≤ d.delay
  pub short : d.delay ≤ LAST_DELAY
  pub soon : d.due ≤ d.since + LAST_DELAY
  pub some : d.flying ≡ true → 0 < length d.items
  pub differ : all_differ d.items ≡ true

-- the same, and the set of the items that are out
pub record IsLine (d : Destination) (known : BTreeSet ℕ) : Type 0 where
  pub paced : IsPaced d
  pub same : IsSetOf d.items known
