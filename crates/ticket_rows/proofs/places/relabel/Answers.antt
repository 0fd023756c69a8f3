use Rattle.std.proofs.Common.{◌≡◌, ◌∙◌, ◌+◌, ◌*◌, ◌<◌, ◌≤◌, Some, get_or, length, sym, ap, arith, slice_get}
use Rattle.std.proofs.Math.Nat.{mul-le-mul_left}
use Rattle.ticket_rows.proofs.InLists.{get_within}
use Rattle.ticket_rows.proofs.Labels.{at_or, map_walked, spread_out}
use Rattle.ticket_rows.proofs.Walked.{walked_write}
use Rattle.ticket_rows.specs.Labels.{place_in}
use Rattle.ticket_rows.proofs.places.relabel.Goals as goal

pub even_label-requires-clause-within : goal.even_label-requires-clause-within
even_label-requires-clause-within c =
    let order = c.args.order.now in
    let i = c.loop-node.node in
    let x = get_or c.loop-node.labels i 0 in
    let low : i < length c.loop-node.labels = omega (arith, c.loop-node-test.true, c.loop-node.invariant.long) in
    let at : slice_get c.args.labels.now i ≡ Some x = sym (c.loop-node.invariant.rest i (omega arith)) ∙ at_or c.loop-node.labels i 0 low in
    let within : place_in order x < length order = get_within order (place_in order x) x (c.requires.labels.there i x at) in
    let next : place_in order x + 1 ≤ length order = omega arith in
    let far : c.args.gap * (place_in order x + 1) ≤ c.args.gap * length order = mul-le-mul_left c.args.gap next in
    let is : c.place_of.result ≡ place_in order x = c.place_of.ensures in
    omega (arith, far, c.requires.within, ap (λ p. (p + 1) * c.args.gap) is)

pub loop-node-preserved : goal.loop-node-preserved
loop-node-preserved c =
    let i = c.loop-node.node in
    let x = get_or c.loop-node.labels i 0 in
    let low : i < length c.loop-node.labels = omega (arith, c.loop-node-test.true, c.loop-node.invariant.long) in
    walked_write (λ m. spread_out c.args.gap c.args.order.now) c.args.labels.now c.loop-node.labels i x c.even_label.result c.loop-node.invariant (at_or c.loop-node.labels i 0 low)
    (ap (λ p. (p + 1) * c.args.gap) (sym c.place_of.ensures) ∙ sym c.even_label.ensures)

pub returns : goal.returns
returns c =
    map_walked (spread_out c.args.gap c.args.order.now) c.args.labels.now c.loop-node.labels c.loop-node.node c.loop-node.invariant (omega (arith, c.loop-node-test.false))
