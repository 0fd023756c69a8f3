use Rattle.std.proofs.Common.{◌≡◌, take}
use Rattle.ticket_rows.specs.Boxed.{contents}
use Rattle.ticket_rows.proofs.boxes.copies_in_boxes.Given as goal

-- copies of those so far
abbrev pub invariant-loop-row : goal.invariant-loop-row
invariant-loop-row l = contents l.boxes.items ≡ contents (take l.row-index l.rows)
