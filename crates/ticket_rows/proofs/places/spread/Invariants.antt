use Rattle.std.proofs.Common.{◌+◌, ◌*◌}
use Rattle.ticket_rows.proofs.Walked.{Walked}
use Rattle.ticket_rows.proofs.places.spread.Given as goal

abbrev pub invariant-loop-place : goal.invariant-loop-place
invariant-loop-place l = Walked (λ m l0. (m + 1) * l.gap) l.fn.order l.order l.place
