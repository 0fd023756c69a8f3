use Rattle.std.proofs.Common.{◌∙◌, ◌++◌, ◌∷◌, [], ap, arith, map, sym, take}
use Rattle.std.proofs.lemmas.List.{map_more, take_all}
use Rattle.spawn.specs.Parts.{lifted_row}
use Rattle.spawn.proofs.parts.part_rows.lifted_rows.Goals as goal

pub loop-place-preserved : goal.loop-place-preserved
loop-place-preserved c =
    let rows = c.args.rows.now in
    let i = c.loop-place.place in
    let f = lifted_row c.args.levels in
    c.in_ok-push.ensures.items ∙ ap (λ xs. xs ++ c.in_ok-lifted_row.field-0 ∷ []) c.loop-place.invariant
    ∙ ap (λ r. map f (take i rows) ++ r ∷ []) (c.in_ok-lifted_row.ensures ∙ ap f c.at-row.ensures)
    ∙ sym (map_more f rows i c.at-row.result.now (omega (arith, c.loop-place-test.true, c.len-place-end.ensures)))

pub returns : goal.returns
returns c =
    c.loop-place.invariant ∙ ap (map (lifted_row c.args.levels)) (take_all c.loop-place.place c.args.rows.now (omega (arith, c.loop-place-test.false, c.len-place-end.ensures)))
