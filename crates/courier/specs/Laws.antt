-- Laws of the table, over all that a caller may do with it.
use Rattle.std.specs.Prelude.{◌≡◌, ℕ, ◌+◌, ◌-◌, ◌*◌, ◌^◌, ◌<◌, ◌≤◌, true, false, min}
use Rattle.std.specs.Prelude.{List, ◌∷◌, length, fold, All, count_by, Option, Some, IsSome, slice_get}
use Rattle.std.specs.List.{list_all, list_any}
use Rattle.courier.specs.declared.TheConstants.{FIRST_DELAY, LAST_DELAY}
use Rattle.courier.specs.declared.flight.Flight.{Flight}
use Rattle.courier.specs.Destination.{Destination, IsPaced, after_answer, after_failed_try}
use Rattle.courier.specs.Destination.{after_hearing}
use Rattle.courier.specs.Runs.{Step, Give, Hear, Settle, IsRun, after_all}
use Rattle.courier.specs.Runs.{ends, gives, gives_item, is_later, puts_item, withdraws}
use Rattle.courier.specs.Table.{IsNextOrQuiet, destination_at, waits_at}

-- what is given for a destination is the last that is, until it ends
abbrev pub OneAtOnce : Type 0
OneAtOnce =
    (ds : List Destination) (now : ℕ) (flight : Flight) (steps : List Step)
    → IsRun ds (Give now flight ∷ steps)
    → list_any (ends flight.line) steps ≡ false
    → list_any (gives flight.line) steps ≡ false

-- what is settled isn't given any more, unless it is put again
abbrev pub NoneComesBack : Type 0
NoneComesBack =
    (ds : List Destination) (line now item : ℕ) (steps : List Step)
    → All IsPaced ds
    → slice_get (destination_at ds line).items 0 ≡ Some item
    → IsRun ds (Settle line now ∷ steps)
    → list_any (puts_item line item) steps ≡ false
    → list_any (gives_item line item) steps ≡ false

-- an item comes a place nearer with each end of what is in flight before it, however it ends, and
-- stays where it is with all else: behind as many ends as stood before it, it is the next
abbrev pub EachComesNearer : Type 0
EachComesNearer =
    (ds : List Destination) (line left item : ℕ) (steps : List Step)
    → slice_get (destination_at ds line).items (left + count_by (ends line) steps) ≡ Some item
    → IsRun ds steps
    → slice_get (destination_at (after_all ds steps) line).items left ≡ Some item

-- what fails goes behind the others, of which none is lost
pub record GoesBehind (d : Destination) (now item : ℕ) : Type 0 where
  pub last : slice_get (after_failed_try now d).items (length d.items - 1) ≡ Some item
  pub many : length (after_failed_try now d).items ≡ length d.items

abbrev pub WhatFailsGoesBehind : Type 0
WhatFailsGoesBehind =
    (d : Destination) (now item : ℕ) → slice_get d.items 0 ≡ Some item → GoesBehind d now item

-- behind a success the delay is the first, and it doubles with each failure up to the last
abbrev pub DelaysDouble : Type 0
DelaysDouble =
    (d : Destination) (now : ℕ) (failures : List ℕ)
    → (fold (λ d now. after_failed_try now d) (after_answer now d) failures).delay
    ≡ min (FIRST_DELAY * 2 ^ length failures) LAST_DELAY

-- while a destination waits whose moment has passed, each other is given at most once, and once
-- more for each time that it turned out not to be sent
abbrev pub EachTakesItsTurn : Type 0
EachTakesItsTurn =
    (ds : List Destination) (line other : ℕ) (steps : List Step)
    → waits_at ds line ≡ true
    → other < length ds
    → IsRun ds steps
    → list_all (is_later (destination_at ds line).due) steps ≡ true
    → list_any (gives line) steps ≡ false
    → count_by (gives other) steps ≤ count_by (withdraws other) steps + 1

-- where a destination that waits is heard from, something can be sent at that moment until it was
-- given, however long it would have waited
abbrev pub WhatIsHeardIsGiven : Type 0
WhatIsHeardIsGiven =
    (ds : List Destination) (line now : ℕ) (steps : List Step) (found : Option Flight)
    → waits_at ds line ≡ true
    → IsRun ds (Hear line now ∷ steps)
    → list_any (gives line) steps ≡ false
    → IsNextOrQuiet now (after_all ds (Hear line now ∷ steps)) found
    → IsSome found

-- a failure behind that waits the first delay only
abbrev pub HeardWaitsAnew : Type 0
HeardWaitsAnew =
    (d : Destination) (now later : ℕ)
    → (after_failed_try later (after_hearing now d)).due ≡ min (later + FIRST_DELAY) (2 ^ 64 - 1)
