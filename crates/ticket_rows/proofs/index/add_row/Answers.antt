use Rattle.std.proofs.Common.{◌≡◌, ◌∙◌, ◌+◌, ◌++◌, ◌∷◌, [], List, true, sym, ap, subst, arith, get_or, is_some, length, refl, slice_get, Some, ◌<◌, cond, not}
use Rattle.std.specs.Str.{bytes_eq}
use Rattle.ticket_rows.specs.declared.spot.Spot.TheVariants.{InPool}
use Rattle.std.proofs.lemmas.Bool.{not-true, not-false}
use Rattle.std.proofs.lemmas.List.{take_all}
use Rattle.ticket_items.specs.declared.resource.Resource.{Resource}
use Rattle.ticket_rows.proofs.Building.{so_far, tells_next, tells_node, twice_next, twice_node, whole_row}
use Rattle.ticket_rows.proofs.InLists.{get_last}
use Rattle.ticket_rows.specs.Index.{Tells, shape_of, spot_under}
use Rattle.ticket_rows.proofs.index.add_row.Goals as goal

pub returns-then-not-branch : goal.returns-then-not-branch
returns-then-not-branch c shapes places f apart last =
    twice_node shapes (shape_of c.args.row.now) c.args.spots.now c.add_spot.new.spots places (places ++ c.args.node ∷ []) f (not-false _ (sym c.in_ok-add_spot.ensures.new ∙ c.if-not-branch.true))

pub loop-place-init : goal.loop-place-init
loop-place-init c shapes places f apart last =
    tells_node shapes (so_far c.args.row.now 0) c.args.spots.now c.add_spot.new.spots places c.args.node f apart last refl (not-true _ (sym c.in_ok-add_spot.ensures.new ∙ c.if-not-branch.false)) c.in_ok-add_spot.ensures.added

pub returns-then-not-branch-2 : goal.returns-then-not-branch-2
returns-then-not-branch-2 c shapes places f apart last =
    let pool = c.args.row.now.resources in
    let i = c.loop-place.place in
    let d = c.index-pool-place.result in
    let is : d ≡ get_or pool i d = c.index-pool-place.is ∙ ap (λ (xs : List Resource). get_or xs i d) c.as_slice-pool.ensures in
    twice_next shapes c.args.row.now i d c.loop-place.spots c.add_spot-in-loop-place.new.spots (places ++ c.args.node ∷ []) (places ++ c.args.node ∷ []) (subst (λ (xs : List Resource). i < length xs) c.as_slice-pool.ensures (omega arith)) is (c.loop-place.invariant shapes places f apart last)
    (not-false _ (sym (c.in_ok-add_spot-2.ensures.new ∙ ap (λ (t : Resource). not (is_some (spot_under c.loop-place.spots t.id))) (sym c.index-pool-place.is)) ∙ c.if-not-branch-2.true))

pub loop-place-preserved : goal.loop-place-preserved
loop-place-preserved c shapes places f apart last =
    let pool = c.args.row.now.resources in
    let i = c.loop-place.place in
    let d = c.index-pool-place.result in
    let node = c.args.node in
    let is : d ≡ get_or pool i d = c.index-pool-place.is ∙ ap (λ (xs : List Resource). get_or xs i d) c.as_slice-pool.ensures in
    let home : slice_get (places ++ node ∷ []) node ≡ Some (length shapes)
    = ap (slice_get (places ++ node ∷ [])) (last ∙ sym f.count) ∙ get_last places node ∙ ap Some last in
    tells_next shapes c.args.row.now i d c.loop-place.spots c.add_spot-in-loop-place.new.spots (places ++ node ∷ []) node (subst (λ (xs : List Resource). i < length xs) c.as_slice-pool.ensures (omega arith)) is (c.loop-place.invariant shapes places f apart last) home
    (not-true _ (sym (c.in_ok-add_spot-2.ensures.new ∙ ap (λ (t : Resource). not (is_some (spot_under c.loop-place.spots t.id))) (sym c.index-pool-place.is)) ∙ c.if-not-branch-2.false))
    (λ x. c.in_ok-add_spot-2.ensures.added x ∙ ap (λ (t : Resource). cond (bytes_eq t.id x) (Some (InPool node i)) (spot_under c.loop-place.spots x)) (sym c.index-pool-place.is))

pub returns : goal.returns
returns c shapes places f apart last =
    subst (λ s. Tells (shapes ++ s ∷ []) true c.loop-place.spots (places ++ c.args.node ∷ [])) (whole_row c.args.row.now c.loop-place.place (omega (arith, ap length c.as_slice-pool.ensures, c.loop-place-test.false)))
    (c.loop-place.invariant shapes places f apart last)
