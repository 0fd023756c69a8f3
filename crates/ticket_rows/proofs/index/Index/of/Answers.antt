use Rattle.std.proofs.Common.{◌≡◌, ◌∙◌, ◌+◌, ◌++◌, ◌∷◌, [], add-one, true, take, length, sym, ap, subst, arith, refl, length-take-le}
use Rattle.std.proofs.lemmas.List.{length-map, take_all}
use Rattle.ticket_items.specs.Ids.{are_distinct}
use Rattle.ticket_rows.proofs.Building.{shapes_more, twice_in_all}
use Rattle.ticket_rows.proofs.Labels.{length-numbers}
use Rattle.ticket_rows.proofs.Parents.{parents_counted, runs_nest}
use Rattle.ticket_rows.proofs.Shapes.{ids-shapes, length-runs-rows}
use Rattle.ticket_rows.specs.Index.{Finds, Tells, ids_in, runs_of, shape_of, shapes_of}
use Rattle.ticket_rows.specs.Labels.{numbers_below}
use Rattle.ticket_rows.specs.Parents.{AreParents, EachAbove, Nest}
use Rattle.ticket_rows.specs.Ticket.{depths}
use Rattle.ticket_rows.proofs.index.Index.of.Goals as goal

pub returns-then-not-branch-clause-distinct : goal.returns-then-not-branch-clause-distinct
returns-then-not-branch-clause-distinct c =
    let rows = c.args.rows.now in
    let i = c.loop-node.node in
    let r = c.index-rows-node.result in
    let before = shapes_of (take i rows) in
    let count : i ≡ length before = sym (length-map (take i rows) shape_of ∙ length-take-le i rows (omega arith)) in
    let t = c.in_ok-add_row.ensures before (numbers_below i) (c.loop-node.invariant.found refl) (sym c.loop-node.invariant.told) count in
    sym (twice_in_all rows (i + 1) (ap (λ ss. are_distinct (ids_in ss)) (shapes_more rows i r c.loop-node-test.true c.index-rows-node.is) ∙ sym t.told ∙ c.if-not-branch.true))

pub loop-node-preserved : goal.loop-node-preserved
loop-node-preserved c =
    let rows = c.args.rows.now in
    let i = c.loop-node.node in
    let r = c.index-rows-node.result in
    let before = shapes_of (take i rows) in
    let count : i ≡ length before = sym (length-map (take i rows) shape_of ∙ length-take-le i rows (omega arith)) in
    let t = c.in_ok-add_row.ensures before (numbers_below i) (c.loop-node.invariant.found refl) (sym c.loop-node.invariant.told) count in
    subst (λ ss. Tells ss true c.add_row.new.spots (numbers_below (i + 1))) (sym (shapes_more rows i r c.loop-node-test.true c.index-rows-node.is))
    (subst (λ n. Tells (before ++ shape_of r ∷ []) true c.add_row.new.spots (numbers_below n)) (sym (add-one i))
    (subst (λ b. Tells (before ++ shape_of r ∷ []) b c.add_row.new.spots (numbers_below i ++ i ∷ [])) c.if-not-branch.false t))

pub parents_of-requires : goal.parents_of-requires
parents_of-requires c =
    subst Nest (sym (c.as_slice.ensures.value ∙ c.in_ok-runs.ensures)) (runs_nest (depths c.args.rows.now))

pub returns-clause-distinct : goal.returns-clause-distinct
returns-clause-distinct c =
    let rows = c.args.rows.now in
    c.loop-node.invariant.told ∙ ap (λ rs. are_distinct (ids_in (shapes_of rs))) (take_all c.loop-node.node rows (omega (arith, c.loop-node-test.false))) ∙ ap are_distinct (ids-shapes rows)

pub returns-clause-index : goal.returns-clause-index
returns-clause-index c =
    let rows = c.args.rows.now in
    let n = c.loop-node.node in
    let runs = runs_of (depths rows) in
    let all = take_all n rows (omega (arith, c.loop-node-test.false)) in
    let found = subst (λ rs. Finds (shapes_of rs) c.loop-node.spots (numbers_below n)) all (c.loop-node.invariant.found refl) in
    let whole : n ≡ length rows = sym (length-numbers n) ∙ found.count ∙ length-map rows shape_of in
    let places : c.in_ok-places.places.items ≡ numbers_below (length rows) = c.in_ok-places.ensures in
    let seen = c.as_slice.ensures.value ∙ c.in_ok-runs.ensures in
    let each = subst (λ ns. EachAbove ns c.in_ok-parents.parents.items) seen c.in_ok-parents.ensures.0 in
    let long : length c.in_ok-parents.parents.items ≡ length rows = c.in_ok-parents.ensures.1 ∙ ap length seen ∙ length-runs-rows rows in
    record {
      finds = subst (Finds (shapes_of rows) c.loop-node.spots) (ap numbers_below whole ∙ sym places) found;
      parents = subst (λ ps. AreParents runs ps c.in_ok-parents.parents.items) (sym places) (parents_counted runs c.in_ok-parents.parents.items (length rows) each long);
      runs = c.in_ok-runs.ensures;
    }
