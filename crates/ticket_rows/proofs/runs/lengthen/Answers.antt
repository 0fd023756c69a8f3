use Rattle.std.proofs.Common.{◌≡◌, ◌∙◌, ◌<◌, Some, get_or, length, refl, sym, ap, arith, slice_get}
use Rattle.std.proofs.lemmas.Option.{slice_get-get_or}
use Rattle.ticket_rows.proofs.Climbed.{climb_first, climb_more}
use Rattle.ticket_rows.proofs.InLists.{get_within}
use Rattle.ticket_rows.proofs.Labels.{at_or}
use Rattle.ticket_rows.proofs.runs.lengthen.Goals as goal

pub loop-above-init : goal.loop-above-init
loop-above-init c =
    let runs = c.args.runs.now.items in
    let places = c.args.places.now.items in
    let parents = c.args.parents.now in
    let node = c.args.node in
    let p = c.at-place.result in
    let v = c.index_mut.result.now in
    let parent = get_or parents node 0 in
    let low : node < length parents = omega (arith, c.requires.came, c.requires.parents.count) in
    let is : slice_get parents node ≡ Some parent = at_or parents node 0 low in
    let h = c.requires.parents.above node parent p is c.at-place.ensures in
    let there : slice_get runs p ≡ Some v = slice_get-get_or runs p v (c.requires.within node p c.at-place.ensures) ∙ ap Some (sym c.index_mut.ensures.value) in (
      p,
      c.at-place.ensures,
      climb_first runs places parents node p parent c.at-above.result v c.requires.parents c.at-place.ensures is c.at-above.ensures there,
      omega (arith, get_within places parent h.0 h.1, c.requires.parents.count),
      refl,
    )

pub at-above-requires-in-loop-above : goal.at-above-requires-in-loop-above
at-above-requires-in-loop-above c =
    let parents = c.args.parents.now in
    let parent = c.loop-above.parent in
    let next = get_or parents parent 0 in
    let is : slice_get parents parent ≡ Some next = at_or parents parent 0 c.loop-above.invariant.3 in
    let h = c.requires.parents.above parent next c.loop-above.above is c.loop-above.invariant.2.stands in
    get_within c.args.places.now.items next h.0 h.1

pub overflow_add-index_mut-in-loop-above : goal.overflow_add-index_mut-in-loop-above
overflow_add-index_mut-in-loop-above c =
    let old = c.args.runs.now.items in
    let runs = c.loop-above.runs.items in
    let above = c.loop-above.above in
    let v = c.index_mut-in-loop-above.result.now in
    let inv = c.loop-above.invariant.2 in
    let low : above < length runs = omega (arith, c.requires.within c.loop-above.parent above inv.stands, inv.climbed.long) in
    let there : slice_get runs above ≡ Some v = slice_get-get_or runs above v low ∙ ap Some (sym c.index_mut-in-loop-above.ensures.value) in
    omega (arith, c.requires.runs.within above v (sym (inv.climbed.rest above c.loop-above-test.true) ∙ there), c.args.runs.now.ok.0, c.args.runs.now.ok.1, c.args.runs.now.small)

pub loop-above-preserved : goal.loop-above-preserved
loop-above-preserved c =
    let old = c.args.runs.now.items in
    let runs = c.loop-above.runs.items in
    let places = c.args.places.now.items in
    let parents = c.args.parents.now in
    let parent = c.loop-above.parent in
    let above = c.loop-above.above in
    let v = c.index_mut-in-loop-above.result.now in
    let inv = c.loop-above.invariant.2 in
    let next = get_or parents parent 0 in
    let low : above < length runs = omega (arith, c.requires.within parent above inv.stands, inv.climbed.long) in
    let there : slice_get runs above ≡ Some v = slice_get-get_or runs above v low ∙ ap Some (sym c.index_mut-in-loop-above.ensures.value) in
    let is : slice_get parents parent ≡ Some next = at_or parents parent 0 c.loop-above.invariant.3 in
    let h = c.requires.parents.above parent next above is inv.stands in (
      c.loop-above.invariant.0,
      c.loop-above.invariant.1,
      climb_more c.loop-above.invariant.0 old runs places parents parent c.loop-above.place above v next c.at-above-in-loop-above.result c.requires.runs c.requires.parents inv c.loop-above-test.true there is c.at-above-in-loop-above.ensures,
      omega (arith, get_within places next h.0 h.1, c.requires.parents.count),
      c.loop-above.invariant.4,
    )
