use Rattle.std.proofs.Common.{map, take}
use Rattle.std.specs.List.{list_any}
use Rattle.spawn.specs.IdSet.{IsSetOf}
use Rattle.spawn.specs.Marking as marking
use Rattle.spawn.proofs.records.out_tables.copies_rw.Given as goal

-- the copies of the spawns so far
abbrev pub invariant-loop-spawn : goal.invariant-loop-spawn
invariant-loop-spawn l = IsSetOf (λ x. list_any (marking.copies_rw x) (map (λ s. s.now) (take l.spawn-index l.spawns))) l.changed
