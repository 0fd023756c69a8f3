use Rattle.std.proofs.Common.{◌≡◌, ◌++◌, map, take}
use Rattle.ticket_items.specs.Resource.{resource_ids}
use Rattle.spawn.proofs.records.out_tables.copied_ids.Given as goal

-- the ids so far
abbrev pub invariant-loop-id : goal.invariant-loop-id
invariant-loop-id l = map (λ s. s.now) l.ids.items ≡ take l.id-index l.id-items

-- those of the copies to change, and those to read so far
abbrev pub invariant-loop-resource : goal.invariant-loop-resource
invariant-loop-resource l = map (λ s. s.now) l.ids.items ≡ l.spawn.rw ++ resource_ids (take l.resource-index l.resource-items)
