use Rattle.std.proofs.Common.{◌≡◌, take}
use Rattle.std.specs.List.{filter_map}
use Rattle.ticket_items.specs.Resource.{resource_ids}
use Rattle.spawn.specs.OutTables.{mark_in}
use Rattle.spawn.specs.Parts.{resources}
use Rattle.spawn.proofs.tables.marking.marked_resources.Given as goal

-- what the resources of the rows so far show
abbrev pub invariant-loop-place : goal.invariant-loop-place
invariant-loop-place l = l.marks.items ≡ filter_map (mark_in l.copies.changed l.copies.numbers) (resource_ids (resources (take l.place l.rows)))
