use Rattle.std.proofs.Common.{◌≡◌, ◌∙◌, ◌-◌, ◌≤◌, Some, ap, arith, cond, length, nat_lt, reverse, sym, take}
use Rattle.std.proofs.lemmas.Bool.{le-ltb, lt-ltb}
use Rattle.std.proofs.lemmas.List.{take_all}
use Rattle.std.specs.List.{find}
use Rattle.ticket_items.specs.declared.node_row.NodeRow.{NodeRow}
use Rattle.merge.proofs.ParentRows.{found_more}
use Rattle.merge.proofs.parent.last_above.Goals as goal

pub loop-place-init : goal.loop-place-init
loop-place-init c =
    ap (λ rs. find (λ (r : NodeRow). nat_lt r.depth c.args.depth) (reverse rs)) (take_all c.len-place.result c.args.rows.now (omega (arith, c.len-place.ensures)))

pub returns-then-row-depth : goal.returns-then-row-depth
returns-then-row-depth c =
    let rows = c.args.rows.now in
    let i = c.loop-place.place in
    let r = c.at-row.result.now in
    let test = λ (s : NodeRow). nat_lt s.depth c.args.depth in
    sym (sym c.loop-place.invariant ∙ found_more test rows i r c.loop-place-test.true (omega (arith, c.loop-place.auto.place, c.len-place.ensures)) c.at-row.ensures
    ∙ ap (λ b. cond b (Some r) (find test (reverse (take (i - 1) rows)))) (lt-ltb _ _ c.if-row-depth.true))

pub loop-place-preserved : goal.loop-place-preserved
loop-place-preserved c =
    let rows = c.args.rows.now in
    let i = c.loop-place.place in
    let r = c.at-row.result.now in
    let test = λ (s : NodeRow). nat_lt s.depth c.args.depth in
    sym (found_more test rows i r c.loop-place-test.true (omega (arith, c.loop-place.auto.place, c.len-place.ensures)) c.at-row.ensures
    ∙ ap (λ b. cond b (Some r) (find test (reverse (take (i - 1) rows)))) (le-ltb _ _ c.if-row-depth.false))
    ∙ c.loop-place.invariant

pub returns : goal.returns
returns c =
    let none : c.loop-place.place ≡ 0 = omega (arith, c.loop-place-test.false) in
    sym (ap (λ n. find (λ (r : NodeRow). nat_lt r.depth c.args.depth) (reverse (take n c.args.rows.now))) none) ∙ c.loop-place.invariant
