use Rattle.std.proofs.Common.{◌∙◌, ◌==◌, ap, if◌then◌else◌}
use Rattle.deliveries.proofs.Looks.{tied-looked}
use Rattle.deliveries.proofs.deliveries.Deliveries.look.Goals as goal

pub invariant_of-self-2 : goal.invariant_of-self-2
invariant_of-self-2 c =
    let s = c.self.inside in
    let sent = c.in_ok-outbox.ensures in
    tied-looked c.args.controller c.get.result.now s.courier c.send_all.new.courier s.routes c.send_all.new.routes s.boxes c.self.invariant (c.get.ensures ∙ c.in_ok-reach.ensures.same c.args.controller) sent.routed sent.kept sent.lined c.in_ok-outbox.outbox c.set.new.self sent.held
    (λ k. c.set.ensures k ∙ ap (λ b. if c.args.controller == k then c.in_ok-outbox.outbox else b) (c.in_ok-reach.ensures.same k))
