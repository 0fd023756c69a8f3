use Rattle.std.proofs.Common.{◌≡◌, map, take}
use Rattle.world.specs.State.{new_worker}
use Rattle.world.proofs.workers.new_workers.Given as goal

abbrev pub invariant-loop-name : goal.invariant-loop-name
invariant-loop-name l = l.workers.items ≡ map (new_worker l.master) (take l.name-index l.names)
