use Rattle.std.proofs.Common.{◌≡◌, ◌∙◌, List, Some, cond, length, ap, slice_get}
use Rattle.std.specs.Str.{bytes_eq}
use Rattle.ticket_items.specs.declared.resource.Resource.{Resource}
use Rattle.ticket_rows.proofs.Boxed.{there_in}
use Rattle.ticket_rows.proofs.IndexFollows.{finds_with_resource, node_told}
use Rattle.ticket_rows.specs.Boxed.{contents}
use Rattle.ticket_rows.specs.Index.{spot_under}
use Rattle.ticket_rows.specs.declared.spot.Spot.TheVariants.{InPool}
use Rattle.ticket_rows.proofs.index.Index.add_resource.Goals as goal

pub returns-clause-ok : goal.returns-clause-ok
returns-clause-ok c =
    let rows = contents c.args.rows.now in
    let index = c.args.self.now in
    let k = c.args.place in
    let b = c.index-rows-place.result in
    let r = c.as_ref-row.result.now in
    let y = c.args.id.now in
    let h = c.count_before-home.result in
    let at : slice_get rows k ≡ Some r = there_in c.args.rows.now k b r c.requires.within c.index-rows-place.is c.as_ref-row.ensures in
    finds_with_resource rows k h r y index c.add_spot.new.spots c.requires.index at (c.count_before-home.ensures k (node_told rows k r index c.requires.index c.requires.distinct at)) c.requires.new
    (λ x. c.in_ok-add_spot.ensures.added x ∙ ap (λ (xs : List Resource). cond (bytes_eq y x) (Some (InPool h (length xs))) (spot_under index.spots x)) c.as_slice.ensures)
