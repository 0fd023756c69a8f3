use Rattle.std.proofs.Common.{◌≡◌}
use Rattle.ticket_rows.specs.Boxed.{contents}
use Rattle.ticket_rows.proofs.boxes.in_boxes.Given as goal

-- those so far are in boxes
abbrev pub invariant-loop-row : goal.invariant-loop-row
invariant-loop-row l = contents l.boxes.items ≡ l.yielded
