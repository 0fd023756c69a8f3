use Rattle.std.proofs.Common.{◌∙◌, ap, arith}
use Rattle.merge.proofs.CopiesToChange.{copies_more}
use Rattle.merge.proofs.copies.are_copies_among.Goals as goal

pub returns-in-None : goal.returns-in-None
returns-in-None c =
    copies_more c.args.ids.now c.args.rows.now c.loop-place.place c.at-row.result.now _ _ _ (omega (arith, c.loop-place-test.true, c.len-place-end.ensures)) (c.as_slice.ensures ∙ ap (λ r. r.resources) c.at-row.ensures) c.in-None.ensures
    ∙ c.loop-place.invariant

pub loop-place-preserved : goal.loop-place-preserved
loop-place-preserved c =
    copies_more c.args.ids.now c.args.rows.now c.loop-place.place c.at-row.result.now _ _ _ (omega (arith, c.loop-place-test.true, c.len-place-end.ensures)) (c.as_slice.ensures ∙ ap (λ r. r.resources) c.at-row.ensures) c.in-Some.ensures
    ∙ c.loop-place.invariant
