-- What a server counts: each count goes as far as its number does, and stays there.
use Rattle.std.specs.Prelude.{ℕ, ◌+◌, ◌-◌, ◌==◌, ◌^◌, List, min, slice_index, slice_set}
use Rattle.std.specs.Prelude.{Option, Some, None}
use Rattle.std.specs.List.{position}
use Rattle.shop_page.specs.declared.counts.Counts.{Counts}
use Rattle.shop_page.specs.declared.counts.TheConstants.{STATUSES}

-- a count with more
abbrev pub more : ℕ → ℕ → ℕ
more count by = min (count + by) (2 ^ 64 - 1)

-- the place of a status among those that are counted, if it is
abbrev pub place_of : ℕ → Option ℕ
place_of status = position (λ known. known == status) STATUSES

-- counts with one more in a place, if there is one
abbrev pub with_one : Option ℕ → List ℕ → List ℕ
with_one None counts = counts
with_one (Some place) counts = slice_set counts place (more (slice_index counts place) 1)

-- one more request that was answered with a status
abbrev pub with_status : ℕ → Counts → Counts
with_status status c = record c { requests = with_one (place_of status) c.requests }

-- one more turn, which took so many milliseconds
abbrev pub with_turn : ℕ → Counts → Counts
with_turn time c = record c { turns = more c.turns 1; turns_time = more c.turns_time time }

-- one more save
abbrev pub with_save : Counts → Counts
with_save c = record c { saves = more c.saves 1 }
