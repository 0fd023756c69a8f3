-- The entries of a worker beside an index of their spawns.
use Rattle.std.specs.Prelude.{◌≡◌, ℕ, true, List}
use Rattle.std.specs.BTreeMap.{BTreeMap, get}
use Rattle.std.specs.List.{position}
use Rattle.std.specs.Ordering.{nat_cmp}
use Rattle.worker_core.specs.Numbers.{are_distinct_numbers}
use Rattle.worker_core.specs.Worker.{is_of, numbers}
use Rattle.worker_core.specs.declared.entry.Entry.{Entry}

-- an index of entries leads from each spawn to where its entry stands, and no two entries are of one
-- spawn
pub record IsSpawnIndex (spawns : BTreeMap ℕ ℕ) (entries : List Entry) : Type 0 where
  pub places : (s : ℕ) → get nat_cmp spawns s ≡ position (is_of s) entries
  pub once : are_distinct_numbers (numbers entries) ≡ true
