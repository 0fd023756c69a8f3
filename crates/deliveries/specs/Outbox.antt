-- What one controller has out, and how far each of it has come.
use Rattle.std.specs.Prelude.{ℕ, ◌==◌, Bool, List, Option, Some, None, if◌then◌else◌, nat_eq}
use Rattle.std.specs.List.{list_any}
use Rattle.std.specs.Map.{lookup}
use Rattle.std.specs.Option.{option_and_then, unwrap_or}
use Rattle.deliveries.specs.declared.progress.Progress.{Progress}
use Rattle.deliveries.specs.declared.progress.Progress.TheVariants.{Waiting}

-- each spawn that is out, once, with its progress
abbrev pub Outbox : Type 0
Outbox = List (ℕ × Progress)

-- the progress of a spawn, and none where it isn't out
abbrev pub progress_in : Outbox → ℕ → Option Progress
progress_in box spawn = lookup (nat_eq spawn) box

-- spawns with the numbers of their destinations
abbrev pub SpawnDestinations : Type 0
SpawnDestinations = List (ℕ × ℕ)

-- the spawn is among them
abbrev pub is_among : ℕ → SpawnDestinations → Bool
is_among spawn out = list_any (λ o. o.0 == spawn) out

-- what a spawn that is out has behind a look: the progress that it had, and `Waiting` where it had
-- none
abbrev pub seen_again : Option Progress → Progress
seen_again had = unwrap_or had Waiting

-- behind a look just the spawns that are out now have progress
abbrev pub progress_after_look : Outbox → SpawnDestinations → ℕ → Option Progress
progress_after_look box out spawn =
    if is_among spawn out then Some (seen_again (progress_in box spawn)) else None

-- the progress of a spawn, with that of one changed where that is out; `None` drops it
abbrev pub progress_after : Outbox → ℕ → Option Progress → ℕ → Option Progress
progress_after box one to spawn =
    if one == spawn then option_and_then (λ _. to) (progress_in box spawn) else progress_in box spawn
