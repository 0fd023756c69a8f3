use Rattle.std.proofs.Common.{◌∙◌, ap}
use Rattle.std.specs.Str.{bytes_eq}
use Rattle.ticket_rows.proofs.Table.{pool_more}
use Rattle.ticket_rows.specs.HomeTable.{home_in, or_here}
use Rattle.ticket_rows.proofs.resolved.add_pool.Goals as goal

pub loop-resource-preserved : goal.loop-resource-preserved
loop-resource-preserved c =
    let old = c.loop-resource.homes in
    let home = c.args.home.now in
    pool_more c.args.pool.now c.loop-resource.resource-index c.resource-item.result home c.args.homes.now old c.add_home.new.homes c.loop-resource-test.true c.loop-resource.invariant
    (λ x. c.in_ok-add_home.ensures x ∙ ap (λ i. or_here (bytes_eq i x) home (home_in old x)) (c.as_str.ensures.value ∙ ap (λ r. r.id) c.resource-item.is))
