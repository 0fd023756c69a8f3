use Rattle.ticket_rows.proofs.Labels.{spread_out}
use Rattle.ticket_rows.proofs.Walked.{Walked}
use Rattle.ticket_rows.proofs.places.relabel.Given as goal

abbrev pub invariant-loop-node : goal.invariant-loop-node
invariant-loop-node l = Walked (λ m. spread_out l.gap l.order) l.fn.labels l.labels l.node
