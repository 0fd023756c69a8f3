-- What resources show of the spawns that copied them (JDF 1.5, 3.8 and 4.4).
use Rattle.std.specs.Prelude.{ℕ, ◌&&◌, ◌==◌, Bool, true, false, not, List, [], ◌∷◌, length, codes}
use Rattle.std.specs.Prelude.{if◌then◌else◌, Option, Some, None}
use Rattle.std.specs.List.{list_all}
use Rattle.std.specs.Option.{option_map_or}
use Rattle.std.specs.Str.{bytes_eq}
use Rattle.serde_json.specs.Data.{Data, string}
use Rattle.serde_json.specs.Find.{get, as_str, as_bool}
use Rattle.ticket_items.specs.SpawnStatus.{status_word}
use Rattle.ticket_items.specs.declared.spawn_status.SpawnStatus.{SpawnStatus}
use Rattle.ticket_items.specs.declared.spawn_status.SpawnStatus.TheVariants.{NotSpawned, SpawnedRO}
use Rattle.ticket_items.specs.declared.spawn_status.SpawnStatus.TheVariants.{SpawnedRW}
use Rattle.json_items.specs.Listed.{pool_form}
use Rattle.json_source.specs.Read.{◌>>=◌}
use Rattle.json_items.specs.declared.resources.shown_form.Showing.{Showing}

-- ---- the SpawnStatus

-- that of a word
abbrev pub spawn_status_named : List ℕ → Option SpawnStatus
spawn_status_named word =
    if bytes_eq word (codes "NotSpawned") then Some NotSpawned else
    (if bytes_eq word (codes "SpawnedRO") then Some SpawnedRO else
    (if bytes_eq word (codes "SpawnedRW") then Some SpawnedRW else None))

abbrev pub spawn_status_form : Data → Option SpawnStatus
spawn_status_form d = as_str d >>= spawn_status_named

abbrev pub spawn_status_data : SpawnStatus → Data
spawn_status_data s = string (status_word s)

-- ---- read

-- absent members are `false`, no texts and `NotSpawned`
unfoldable pub shown_form : Data → Option Showing
shown_form d = do
  locked ← option_map_or as_bool (get (codes "Locked") d) (Some false)
  spawn_ids ← pool_form as_str (get (codes "SpawnIDs") d)
  spawn_status ← option_map_or spawn_status_form (get (codes "SpawnStatus") d) (Some NotSpawned)
  Some (record { locked = locked; spawn_ids = spawn_ids; spawn_status = spawn_status })

-- ---- nothing

-- what absent members mean
abbrev pub nothing_shown : Showing
nothing_shown = record { locked = false; spawn_ids = []; spawn_status = NotSpawned }

abbrev pub is_empty : List (List ℕ) → Bool
is_empty [] = true
is_empty (x ∷ xs) = false

abbrev pub is_not_spawned : SpawnStatus → Bool
is_not_spawned NotSpawned = true
is_not_spawned SpawnedRO = false
is_not_spawned SpawnedRW = false

abbrev pub shows_nothing : Showing → Bool
shows_nothing s = not s.locked && is_empty s.spawn_ids && is_not_spawned s.spawn_status

-- ---- the copies of a part

-- a copy that may be changed
abbrev pub shown_rw : List ℕ → Showing
shown_rw spawn = record { locked = false; spawn_ids = spawn ∷ []; spawn_status = SpawnedRW }

-- a copy that may be read alone
abbrev pub shown_ro : List ℕ → Showing
shown_ro spawn = record { locked = true; spawn_ids = spawn ∷ []; spawn_status = SpawnedRO }

-- whether they are this text once, and nothing else
abbrev pub are_only : List ℕ → List (List ℕ) → Bool
are_only x texts = (length texts == 1) && list_all (λ y. bytes_eq y x) texts

abbrev pub is_spawned_rw : SpawnStatus → Bool
is_spawned_rw NotSpawned = false
is_spawned_rw SpawnedRO = false
is_spawned_rw SpawnedRW = true

abbrev pub is_spawned_ro : SpawnStatus → Bool
is_spawned_ro NotSpawned = false
is_spawned_ro SpawnedRO = true
is_spawned_ro SpawnedRW = false

-- whether a resource shows what a copy to change does, of the spawn of this text
abbrev pub shows_change : List ℕ → Showing → Bool
shows_change spawn s = not s.locked && are_only spawn s.spawn_ids && is_spawned_rw s.spawn_status

-- and what a copy to read does
abbrev pub shows_read : List ℕ → Showing → Bool
shows_read spawn s = s.locked && are_only spawn s.spawn_ids && is_spawned_ro s.spawn_status
