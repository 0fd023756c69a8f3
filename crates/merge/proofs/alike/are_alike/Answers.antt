use Rattle.std.proofs.Common.{◌∙◌, ◌+◌, ◌&&◌, [], ap, arith, drop, sym}
use Rattle.std.proofs.lemmas.List.{drop_all}
use Rattle.std.specs.Cmp.Lexicographic.{pointwise}
use Rattle.merge.specs.Alike.{is_row}
use Rattle.merge.proofs.Told.{pairs_more}
use Rattle.merge.proofs.alike.are_alike.Goals as goal

pub at-requires : goal.at-requires
at-requires c = omega (arith, c.loop-place-test.true, c.requires)

pub returns-then-not-is_row : goal.returns-then-not-is_row
returns-then-not-is_row c =
    let old = c.args.old.now in
    let new = c.args.new.now in
    let i = c.loop-place.place in
    let f = is_row c.args.levels in
    sym (sym c.loop-place.invariant
    ∙ pairs_more f old new i c.at.result.now c.index-new-place.result (omega (arith, c.loop-place-test.true, c.requires)) c.loop-place-test.true c.at.ensures c.index-new-place.is
    ∙ ap (λ b. b && pointwise f (drop (i + 1) old) (drop (i + 1) new)) (sym c.is_row.ensures ∙ c.if-not-is_row.true))

pub loop-place-preserved : goal.loop-place-preserved
loop-place-preserved c =
    let old = c.args.old.now in
    let new = c.args.new.now in
    let i = c.loop-place.place in
    let f = is_row c.args.levels in
    sym (pairs_more f old new i c.at.result.now c.index-new-place.result (omega (arith, c.loop-place-test.true, c.requires)) c.loop-place-test.true c.at.ensures c.index-new-place.is
    ∙ ap (λ b. b && pointwise f (drop (i + 1) old) (drop (i + 1) new)) (sym c.is_row.ensures ∙ c.if-not-is_row.false))
    ∙ c.loop-place.invariant

pub returns : goal.returns
returns c =
    let old = c.args.old.now in
    let new = c.args.new.now in
    let i = c.loop-place.place in
    let f = is_row c.args.levels in
    sym (ap (λ rs. pointwise f rs (drop i new)) (drop_all i old (omega (arith, c.loop-place-test.false, c.requires))) ∙ ap (pointwise f []) (drop_all i new (omega (arith, c.loop-place-test.false))))
    ∙ c.loop-place.invariant
