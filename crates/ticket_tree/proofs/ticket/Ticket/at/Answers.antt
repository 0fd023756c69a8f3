use Rattle.std.proofs.Common.{◌∙◌, ◌-◌, ap, drop, slice_get, subst, take}
use Rattle.ticket_rows.specs.Ticket.{Job}
use Rattle.ticket_tree.proofs.AtNode.{bounds_apart, is_at}
use Rattle.ticket_tree.specs.At.{IsAt}
use Rattle.ticket_tree.proofs.ticket.Ticket.at.Goals as goal

pub between-requires-clause-apart : goal.between-requires-clause-apart
between-requires-clause-apart c = bounds_apart c.self.inside.rows c.args.node.now c.in-Some.from c.in-Some.to c.self.invariant c.in-Some.ensures.found

pub returns-in-Some-clause-at : goal.returns-in-Some-clause-at
returns-in-Some-clause-at c =
    let from = c.in-Some.from in
    let to = c.in-Some.to in
    let n = c.args.node.now in
    let a = c.between.result in
    let seen = c.rows.ensures in
    let found = c.between.ensures in
    subst (λ (t : Job). IsAt t.rows n a) c.self.view_is
    (is_at c.self.inside.rows n from to a c.self.invariant c.in-Some.ensures.found (found.front ∙ ap (take from) seen) (found.below ∙ ap (λ rs. take (to - from) (drop from rs)) seen) (found.behind ∙ ap (drop to) seen)
    (λ r there. found.depth r (ap (λ rs. slice_get rs from) seen ∙ there)))
