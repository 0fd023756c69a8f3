use Rattle.std.proofs.Common.{◌∙◌, ap, get_or}
use Rattle.ticket_rows.proofs.Copies.{known_more, known_none}
use Rattle.ticket_rows.specs.HomeTable.{home_in, or_here}
use Rattle.ticket_items.specs.Ids.{mem}
use Rattle.ticket_items.specs.Resource.{resource_ids}
use Rattle.ticket_rows.proofs.resolved.add_rows.Goals as goal

pub loop-row-init : goal.loop-row-init
loop-row-init c x = known_none (home_in c.args.homes.now x)

pub loop-row-preserved : goal.loop-row-preserved
loop-row-preserved c x =
    let old = c.loop-row.homes in
    let row = get_or c.args.rows.now c.loop-row.row-index c.row-item.result in
    known_more c.args.rows.now c.loop-row.row-index c.row-item.result x (home_in c.args.homes.now x) (home_in old x) (home_in c.add_pool.new.homes x) c.loop-row-test.true (c.loop-row.invariant x)
    (c.in_ok-add_pool.ensures x
    ∙ ap (λ i. or_here (mem x (resource_ids c.as_slice.result.now)) i (home_in old x)) (c.as_str.ensures.value ∙ ap (λ r. r.id) c.row-item.is)
    ∙ ap (λ pool. or_here (mem x (resource_ids pool)) row.id (home_in old x)) (c.as_slice.ensures ∙ ap (λ r. r.resources) c.row-item.is))
