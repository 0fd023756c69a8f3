use Rattle.std.proofs.Common.{take}
use Rattle.worker_core.specs.SpawnIndex.{IsSpawnIndex}
use Rattle.worker_core.proofs.entries.spawns_of.Given as goal

-- the entries so far have their index
abbrev pub invariant-loop-place : goal.invariant-loop-place
invariant-loop-place l = IsSpawnIndex l.spawns (take l.place l.list)
