use Rattle.std.proofs.Common.{◌∙◌, ap, arith}
use Rattle.merge.proofs.OrderedCopies.{met_more}
use Rattle.merge.proofs.in_order.are_in_order.Goals as goal

pub loop-place-preserved : goal.loop-place-preserved
loop-place-preserved g c =
    met_more g.T.OfResource.is_of c.args.rows.now c.loop-place.place c.at-row.result.now _ _ _ (omega (arith, c.loop-place-test.true, c.len-place-end.ensures)) (c.as_slice.ensures ∙ ap (λ r. r.resources) c.at-row.ensures) c.rest_behind-left.ensures
    ∙ c.loop-place.invariant
