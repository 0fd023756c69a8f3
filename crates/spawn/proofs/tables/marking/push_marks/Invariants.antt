use Rattle.std.proofs.Common.{◌≡◌, ◌++◌, take}
use Rattle.std.specs.List.{filter_map}
use Rattle.ticket_items.specs.Resource.{resource_ids}
use Rattle.spawn.specs.OutTables.{mark_in}
use Rattle.spawn.proofs.tables.marking.push_marks.Given as goal

-- what was there, and what the resources so far show
abbrev pub invariant-loop-resource : goal.invariant-loop-resource
invariant-loop-resource l = l.marks.items ≡ l.fn.marks.items ++ filter_map (mark_in l.copies.changed l.copies.numbers) (resource_ids (take l.resource-index l.pool))
