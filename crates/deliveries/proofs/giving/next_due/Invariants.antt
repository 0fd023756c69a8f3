use Rattle.std.proofs.Common.{length}
use Rattle.std.specs.List.{sum_by}
use Rattle.deliveries.proofs.Passing.{IsPassed}
use Rattle.deliveries.specs.Ledger.{IsTied}
use Rattle.deliveries.proofs.giving.next_due.Given as goal

abbrev pub invariant-loop-flight : goal.invariant-loop-flight
invariant-loop-flight l =
    IsPassed l.now l.routes l.boxes l.initial.courier l.courier × IsTied l.courier l.routes l.boxes

abbrev pub decreases-loop-flight : goal.decreases-loop-flight
decreases-loop-flight l = sum_by (λ d. length d.items) l.courier
