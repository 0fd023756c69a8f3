use Rattle.std.proofs.Common.{◌+◌, None, take}
use Rattle.ticket_items.specs.Resource.{resource_ids}
use Rattle.ticket_items.specs.declared.resource.Resource.{Resource}
use Rattle.spawn.proofs.Holdings.{given_next, given_none, item_more}
use Rattle.spawn.proofs.tables.holders.Holders.free_pool.Goals as goal

pub loop-resource-init : goal.loop-resource-init
loop-resource-init c = given_none None c.args.self.now

pub loop-resource-preserved : goal.loop-resource-preserved
loop-resource-preserved c =
    let xs = c.args.pool.now in
    let i = c.loop-resource.resource-index in
    let x = c.resource-item.result in
    given_next (resource_ids (take i xs)) x.id (resource_ids (take (i + 1) xs)) None c.args.self.now c.loop-resource.self _ c.loop-resource.invariant c.free_id.ensures (item_more (λ (y : Resource). y.id) xs i x c.loop-resource-test.true c.resource-item.is)
