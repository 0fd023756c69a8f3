use Rattle.std.proofs.Common.{◌≡◌, take}
use Rattle.ticket_items.proofs.few_attrs.FewAttrs.to_map.Given as goal

-- the pairs so far are in the map
abbrev pub invariant-loop-name : goal.invariant-loop-name
invariant-loop-name l = l.map.entries ≡ take l.name-index l.fn.self
