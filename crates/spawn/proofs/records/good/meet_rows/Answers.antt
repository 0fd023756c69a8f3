use Rattle.std.proofs.Common.{◌∙◌, ap, arith}
use Rattle.std.specs.Option.{option_map}
use Rattle.spawn.proofs.GoodWalk.{met_more, met_none}
use Rattle.spawn.specs.Walk.{unmet_behind_all}
use Rattle.spawn.proofs.records.good.meet_rows.Goals as goal

pub returns-in_err-left : goal.returns-in_err-left
returns-in_err-left c =
    let inside = c.args.inside.now in
    let rw = c.args.rw.now in
    let old = c.loop-place.left in
    ap (option_map (λ l. (l.rw.now, l.ro.now))) c.from_residual.ensures
    ∙ met_none inside rw c.args.rows.now c.loop-place.place c.at-row.result.now (old.rw.now, old.ro.now) (omega (arith, c.loop-place-test.true, c.len-place-end.ensures))
    (c.in_err-left.ensures ∙ ap (λ pool. unmet_behind_all inside rw pool (old.rw.now, old.ro.now)) (c.as_slice.ensures ∙ ap (λ r. r.resources) c.at-row.ensures))
    ∙ c.loop-place.invariant

pub loop-place-preserved : goal.loop-place-preserved
loop-place-preserved c =
    let inside = c.args.inside.now in
    let rw = c.args.rw.now in
    let old = c.loop-place.left in
    let new = c.in_ok-left.left in
    met_more inside rw c.args.rows.now c.loop-place.place c.at-row.result.now (old.rw.now, old.ro.now) (new.rw.now, new.ro.now) (omega (arith, c.loop-place-test.true, c.len-place-end.ensures))
    (c.in_ok-left.ensures ∙ ap (λ pool. unmet_behind_all inside rw pool (old.rw.now, old.ro.now)) (c.as_slice.ensures ∙ ap (λ r. r.resources) c.at-row.ensures))
    ∙ c.loop-place.invariant
