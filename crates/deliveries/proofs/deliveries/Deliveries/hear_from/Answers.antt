use Rattle.deliveries.proofs.Passing.{tied-after_hearing}
use Rattle.deliveries.proofs.deliveries.Deliveries.hear_from.Goals as goal

pub invariant_of-self : goal.invariant_of-self
invariant_of-self c =
    let s = c.self.inside in
    rw c.hear_from.ensures (tied-after_hearing c.args.now s.courier s.routes s.boxes c.args.line c.self.invariant)
