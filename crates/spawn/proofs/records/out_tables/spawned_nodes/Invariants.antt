use Rattle.std.proofs.Common.{map, take}
use Rattle.std.specs.List.{list_any}
use Rattle.std.specs.Str.{bytes_eq}
use Rattle.spawn.specs.IdSet.{IsSetOf}
use Rattle.spawn.proofs.records.out_tables.spawned_nodes.Given as goal

-- the nodes of the spawns so far
abbrev pub invariant-loop-spawn : goal.invariant-loop-spawn
invariant-loop-spawn l = IsSetOf (λ x. list_any (λ r. bytes_eq r.node x) (map (λ s. s.now) (take l.spawn-index l.spawns))) l.nodes
