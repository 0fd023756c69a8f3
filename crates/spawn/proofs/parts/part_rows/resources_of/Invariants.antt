use Rattle.std.proofs.Common.{◌≡◌, option_to_list, take}
use Rattle.std.specs.List.{flat_map}
use Rattle.ticket_rows.specs.Homes.{resource_of}
use Rattle.spawn.proofs.parts.part_rows.resources_of.Given as goal

-- those of the ids so far
abbrev pub invariant-loop-id : goal.invariant-loop-id
invariant-loop-id l = l.found.items ≡ flat_map (λ x. option_to_list (resource_of l.ticket.rows x)) (take l.id-index l.ids)
