use Rattle.std.proofs.Common.{None, refl}
use Rattle.courier.specs.Destination.{after_withdrawal}
use Rattle.deliveries.proofs.Passing.{tied-settled}
use Rattle.deliveries.proofs.deliveries.Deliveries.withdraw_flight.Goals as goal

pub invariant_of-self : goal.invariant_of-self
invariant_of-self c =
    let s = c.self.inside in
    rw c.withdraw_flight.ensures (tied-settled (after_withdrawal) s.courier s.routes s.boxes c.mark.new.boxes c.args.line None (rw (← c.self.view_is) at c.requires) c.self.invariant refl (λ d. refl) (λ d. refl) c.mark.ensures)
