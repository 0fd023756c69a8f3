use Rattle.std.proofs.Common.{◌∙◌, map, sym, ap, subst}
use Rattle.ticket_rows.proofs.Labels.{labels_even, places_even}
use Rattle.ticket_rows.specs.Labels.{AreLabels, even_labels, place_in, places_of}
use Rattle.ticket_rows.proofs.places.Places.with_count.Goals as goal

pub invariant_of-result : goal.invariant_of-result
invariant_of-result c =
    let gap = c.gap_of-gap.result in
    let n = c.args.count in
    subst (λ ls. AreLabels ls c.in_ok-order.order.items) (sym c.in_ok-labels.ensures)
    (subst (AreLabels (even_labels gap n)) (sym c.in_ok-order.ensures) (labels_even gap n c.gap_of-gap.ensures.some))

pub returns : goal.returns
returns c =
    let gap = c.gap_of-gap.result in
    let n = c.args.count in
    ap (λ o. map (place_in o) c.in_ok-labels.labels.items) c.in_ok-order.ensures ∙ ap (λ ls. places_of ls (even_labels gap n)) c.in_ok-labels.ensures ∙ places_even gap n c.gap_of-gap.ensures.some
