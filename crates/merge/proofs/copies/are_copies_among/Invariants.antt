use Rattle.std.specs.Cmp.Lexicographic.{pointwise}
use Rattle.std.proofs.Common.{◌≡◌, drop}
use Rattle.ticket_items.specs.Resource.{is_alike}
use Rattle.spawn.specs.Parts.{resources_among}
use Rattle.merge.proofs.copies.are_copies_among.Given as goal

-- what is left decides
abbrev pub invariant-loop-place : goal.invariant-loop-place
invariant-loop-place l = pointwise is_alike (resources_among l.ids (drop l.place l.rows)) l.rest ≡ pointwise is_alike (resources_among l.ids l.rows) l.copies
