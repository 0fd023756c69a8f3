use Rattle.std.proofs.Common.{◌∙◌, sym, ap, subst, arith}
use Rattle.ticket_rows.proofs.Labels.{even_walked, labels_spread, places_spread}
use Rattle.ticket_rows.specs.Labels.{AreLabels, places_of}
use Rattle.ticket_rows.proofs.places.spread.Goals as goal

pub returns-clause-labels : goal.returns-clause-labels
returns-clause-labels c =
    let even = even_walked c.args.gap c.args.order.now c.loop-place.order c.loop-place.place c.loop-place.invariant (omega (arith, c.loop-place-test.false)) in
    subst (λ ls. AreLabels ls c.loop-place.order) (sym c.relabel.ensures)
    (labels_spread c.args.gap c.args.labels.now c.args.order.now c.loop-place.order c.requires.some c.requires.labels even c.loop-place.invariant.long)

pub returns-clause-places : goal.returns-clause-places
returns-clause-places c =
    let even = even_walked c.args.gap c.args.order.now c.loop-place.order c.loop-place.place c.loop-place.invariant (omega (arith, c.loop-place-test.false)) in
    ap (λ ls. places_of ls c.loop-place.order) c.relabel.ensures ∙ places_spread c.args.gap c.args.labels.now c.args.order.now c.loop-place.order c.requires.some c.requires.labels even c.loop-place.invariant.long

pub returns-clause-even : goal.returns-clause-even
returns-clause-even c =
    even_walked c.args.gap c.args.order.now c.loop-place.order c.loop-place.place c.loop-place.invariant (omega (arith, c.loop-place-test.false))
