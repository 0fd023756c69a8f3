use Rattle.std.proofs.Common.{◌≡◌, ◌≤◌}
use Rattle.ticket_rows.specs.Labels.{even_labels}
use Rattle.ticket_rows.proofs.places.even_labels.Given as goal

abbrev pub invariant-loop-place : goal.invariant-loop-place
invariant-loop-place l = (l.labels.items ≡ even_labels l.gap l.place) × (l.place ≤ l.count)
