-- Who holds what, id by id: the ids that spawns hold, as a list that is kept in step with a ticket
-- and its records. What stands in the ticket and isn't among them is the master's.
use Rattle.std.specs.Prelude.{◌≡◌, ℕ, Bool, true, false, List, ◌++◌, map, Option, None}
use Rattle.std.specs.Prelude.{if◌then◌else◌, String, string_bytes}
use Rattle.std.specs.BTreeMap.{BTreeMap}
use Rattle.std.specs.List.{filter}
use Rattle.std.specs.Map.{lookup}
use Rattle.std.specs.Option.{option_map_or}
use Rattle.std.specs.Str.{bytes_eq}
use Rattle.ticket_items.specs.Ids.{mem}
use Rattle.ticket_items.specs.declared.node_row.NodeRow.{NodeRow}
use Rattle.ticket_rows.specs.Place.{place_at, places}
use Rattle.ticket_rows.specs.Ticket.{ids}
use Rattle.ticket_tree.specs.At.{rows_below}
use Rattle.plain_shop.specs.Claim.{is_claimed}
use Rattle.spawn.specs.Table.{spawn_with}
use Rattle.spawn.specs.declared.records.spawn_rec.SpawnRec.{SpawnRec}

-- ids, each with the spawn that holds it
abbrev pub Holdings : Type 0
Holdings = List (List ℕ × ℕ)

-- the holdings in a map by texts
abbrev pub holdings_in : {A : Type 0} → BTreeMap (String A) ℕ → Holdings
holdings_in m = map (λ e. (string_bytes e.0, e.1)) m.entries

-- the spawn that holds an id, if it stands there
abbrev pub holding_spawn : Holdings → List ℕ → Option ℕ
holding_spawn h x = lookup (bytes_eq x) h

-- the spawn that holds each id is the one that these rows and records tell
pub record IsTable (rows : List NodeRow) (recs : List SpawnRec) (h : Holdings) : Type 0 where
  pub same : (x : List ℕ) → holding_spawn h x ≡ spawn_with rows recs x

-- whether the claim of a spawn has what stands under an id
abbrev pub claims : List NodeRow → SpawnRec → List ℕ → Bool
claims rows r x = option_map_or (is_claimed r.node r.rw) (place_at (places rows) x) false

-- the ids of what it has: of the nodes at and below its own and of the resources at home there, and
-- of its copies that may be changed, as far as they stand in the ticket
abbrev pub claimed_ids : List NodeRow → SpawnRec → List (List ℕ)
claimed_ids rows r = ids (rows_below rows r.node) ++ filter (λ x. mem x (ids rows)) r.rw

-- ---- what becomes of holdings

-- ids that pass a test are held by this spawn, or by none; all others as before
pub record IsGiven (f : List ℕ → Bool) (who : Option ℕ) (before after : Holdings) : Type 0 where
  pub each : (x : List ℕ) → holding_spawn after x ≡ (if f x then who else holding_spawn before x)

-- ids that fail a test are held as before
pub record OthersStay (f : List ℕ → Bool) (before after : Holdings) : Type 0 where
  pub each : (x : List ℕ) → f x ≡ false → holding_spawn after x ≡ holding_spawn before x

-- each id is held as before
pub record IsSame (before after : Holdings) : Type 0 where
  pub each : (x : List ℕ) → holding_spawn after x ≡ holding_spawn before x

-- no spawn holds an id that passes a test
pub record IsFree (f : List ℕ → Bool) (h : Holdings) : Type 0 where
  pub none : (x : List ℕ) → f x ≡ true → holding_spawn h x ≡ None
