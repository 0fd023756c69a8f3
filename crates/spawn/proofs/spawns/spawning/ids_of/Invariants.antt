use Rattle.std.proofs.Common.{◌≡◌, map, take}
use Rattle.spawn.proofs.spawns.spawning.ids_of.Given as goal

-- those so far
abbrev pub invariant-loop-resource : goal.invariant-loop-resource
invariant-loop-resource l = l.ids.items ≡ map (λ x. x.id) (take l.resource-index l.resources)
