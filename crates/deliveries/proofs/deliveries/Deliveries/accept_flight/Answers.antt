use Rattle.std.proofs.Common.{Some, refl}
use Rattle.courier.specs.Destination.{after_answer}
use Rattle.deliveries.proofs.Passing.{tied-settled}
use Rattle.deliveries.specs.declared.progress.Progress.TheVariants.{Taken}
use Rattle.deliveries.proofs.deliveries.Deliveries.accept_flight.Goals as goal

pub invariant_of-self : goal.invariant_of-self
invariant_of-self c =
    let s = c.self.inside in
    rw c.settle_flight.ensures (tied-settled (after_answer c.args.now) s.courier s.routes s.boxes c.mark.new.boxes c.args.line (Some Taken) (rw (← c.self.view_is) at c.requires) c.self.invariant refl (λ d. refl) (λ d. refl) c.mark.ensures)
