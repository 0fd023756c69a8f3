use Rattle.std.proofs.Common.{◌∙◌, ◌∷◌, [], ◌++◌, ◌-◌, ap, sym, take, arith}
use Rattle.std.proofs.lemmas.List.{take_all}
use Rattle.spawn.specs.Parts.{way_from}
use Rattle.spawn.proofs.Ancestry.{way_more}
use Rattle.spawn.proofs.claims.above.way_to.Goals as goal

pub loop-place-preserved : goal.loop-place-preserved
loop-place-preserved c =
    c.in_ok-go_to.ensures
    ∙ ap (λ rs. take (c.at-row.result.now.depth - 1) rs ++ c.at-row.result.now ∷ []) c.loop-place.invariant
    ∙ ap (λ r. take (r.depth - 1) (way_from [] (take c.loop-place.place c.args.rows.now)) ++ r ∷ []) c.at-row.ensures
    ∙ sym (way_more c.args.rows.now c.loop-place.place c.at-row.result.now (omega (arith, c.loop-place-test.true, c.len-place-end.ensures)))

pub returns : goal.returns
returns c = c.loop-place.invariant ∙ ap (way_from []) (take_all c.loop-place.place c.args.rows.now (omega (arith, c.loop-place-test.false, c.len-place-end.ensures)))
