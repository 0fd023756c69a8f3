-- What a caller does with a table, one after the other.
use Rattle.std.specs.Prelude.{◌≡◌, ℕ, ◌<◌, ◌^◌, ◌==◌, Bool, true, false, ◌&&◌, nat_lt, ⊤}
use Rattle.std.specs.Prelude.{List, [], ◌∷◌, ◌++◌, length}
use Rattle.courier.specs.declared.flight.Flight.{Flight}
use Rattle.courier.specs.Destination.{Destination, after_answer, after_failed_try, after_hearing}
use Rattle.courier.specs.Destination.{after_start, after_withdrawal, new_at}
use Rattle.courier.specs.Table.{IsNext, flies_at, put, with_changed}

-- a destination is added at a moment; an item is put to one; at a moment this is given; what is in
-- flight to a destination fails at a moment, is settled at one, or is withdrawn; and a destination is
-- heard from at a moment
pub data Step : Type 0 where
  Add : ℕ → Step
  Put : ℕ → ℕ → Step
  Give : ℕ → Flight → Step
  Fail : ℕ → ℕ → Step
  Settle : ℕ → ℕ → Step
  Withdraw : ℕ → Step
  Hear : ℕ → ℕ → Step

-- what it leaves, as the call of its kind ensures
abbrev pub after : List Destination → Step → List Destination
after ds (Add now) = ds ++ new_at now ∷ []
after ds (Put item line) = put item ds line
after ds (Give now flight) = with_changed after_start ds flight.line
after ds (Fail line now) = with_changed (after_failed_try now) ds line
after ds (Settle line now) = with_changed (after_answer now) ds line
after ds (Withdraw line) = with_changed after_withdrawal ds line
after ds (Hear line now) = with_changed (after_hearing now) ds line

-- what it asks: what the call requires, or ensures of what it gives
abbrev pub Allows : List Destination → Step → Type 0
Allows ds (Add now) = ⊤
Allows ds (Put item line) = line < length ds
Allows ds (Give now flight) = IsNext now ds flight
Allows ds (Fail line now) = flies_at ds line ≡ true
Allows ds (Settle line now) = flies_at ds line ≡ true
Allows ds (Withdraw line) = flies_at ds line ≡ true
Allows ds (Hear line now) = ⊤

-- each step is allowed where the ones before have led
abbrev pub IsRun : List Destination → List Step → Type 0
IsRun ds [] = ⊤
IsRun ds (step ∷ steps) = Allows ds step × IsRun (after ds step) steps

-- where they lead
abbrev pub after_all : List Destination → List Step → List Destination
after_all ds [] = ds
after_all ds (step ∷ steps) = after_all (after ds step) steps

-- the step gives something for this destination
abbrev pub gives : ℕ → Step → Bool
gives line (Give now flight) = flight.line == line
gives line (Add now) = false
gives line (Put item k) = false
gives line (Fail k now) = false
gives line (Settle k now) = false
gives line (Withdraw k) = false
gives line (Hear k now) = false

-- the step gives this item for this destination
abbrev pub gives_item : ℕ → ℕ → Step → Bool
gives_item line item (Give now flight) = (flight.line == line) && (flight.item == item)
gives_item line item (Add now) = false
gives_item line item (Put other k) = false
gives_item line item (Fail k now) = false
gives_item line item (Settle k now) = false
gives_item line item (Withdraw k) = false
gives_item line item (Hear k now) = false

-- the step puts this item to this destination
abbrev pub puts_item : ℕ → ℕ → Step → Bool
puts_item line item (Put other k) = (k == line) && (other == item)
puts_item line item (Add now) = false
puts_item line item (Give now flight) = false
puts_item line item (Fail k now) = false
puts_item line item (Settle k now) = false
puts_item line item (Withdraw k) = false
puts_item line item (Hear k now) = false

-- the step ends what is in flight to this destination
abbrev pub ends : ℕ → Step → Bool
ends line (Fail k now) = k == line
ends line (Settle k now) = k == line
ends line (Withdraw k) = k == line
ends line (Add now) = false
ends line (Put item k) = false
ends line (Give now flight) = false
ends line (Hear k now) = false

-- the step withdraws what is in flight to this destination
abbrev pub withdraws : ℕ → Step → Bool
withdraws line (Withdraw k) = k == line
withdraws line (Add now) = false
withdraws line (Put item k) = false
withdraws line (Give now flight) = false
withdraws line (Fail k now) = false
withdraws line (Settle k now) = false
withdraws line (Hear k now) = false

-- a try that the step ends, if it ends one, ends after this moment, and a destination that it hears
-- from is heard from after it
abbrev pub is_later : ℕ → Step → Bool
is_later due (Fail k now) = nat_lt due now && nat_lt now (2 ^ 64)
is_later due (Settle k now) = nat_lt due now && nat_lt now (2 ^ 64)
is_later due (Add now) = true
is_later due (Put item k) = true
is_later due (Give now flight) = true
is_later due (Withdraw k) = true
is_later due (Hear k now) = nat_lt due now && nat_lt now (2 ^ 64)
