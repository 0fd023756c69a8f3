use Rattle.std.proofs.Common.{◌≡◌, ℕ, List, map, take}
use Rattle.std.specs.List.{filter}
use Rattle.spawn.specs.Marking.{copies}
use Rattle.spawn.specs.OutTables.{numbers_in, if_any}
use Rattle.spawn.proofs.records.out_tables.numbers_of.Given as goal

-- the numbers of the spawns so far
abbrev pub invariant-loop-spawn : goal.invariant-loop-spawn
invariant-loop-spawn l = (x : List ℕ) → numbers_in l.numbers x ≡ if_any (map (λ r. r.id) (filter (copies x) (map (λ s. s.now) (take l.spawn-index l.spawns))))
