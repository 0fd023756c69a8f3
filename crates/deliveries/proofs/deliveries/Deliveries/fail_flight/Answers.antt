use Rattle.deliveries.proofs.Passing.{tied-after_failed_try}
use Rattle.deliveries.proofs.deliveries.Deliveries.fail_flight.Goals as goal

pub invariant_of-self : goal.invariant_of-self
invariant_of-self c =
    let s = c.self.inside in
    rw c.fail_flight.ensures (tied-after_failed_try c.args.now s.courier s.routes s.boxes c.args.line (rw (← c.self.view_is) at c.requires) c.self.invariant)
