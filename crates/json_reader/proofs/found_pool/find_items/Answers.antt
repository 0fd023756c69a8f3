use Rattle.std.proofs.Common.{Some}
use Rattle.json_items.proofs.ListLemmas.{Fails-items_read}
use Rattle.json_items.specs.Resources.{resource_form, resource_has_names, resource_has_texts}
use Rattle.json_items.specs.TicketDraft.{resources_of}
use Rattle.json_reader.proofs.Findings.{FindsAs-failed}
use Rattle.json_reader.proofs.Pools.{items_more, pool_more}
use Rattle.json_reader.specs.Found.{IsPool}
use Rattle.json_reader.proofs.found_pool.find_items.Goals as goal

pub returns-in_err-resource : goal.returns-in_err-resource
returns-in_err-resource g c =
    FindsAs-failed IsPool c.from_residual-in_err-resource.result c.in_err-resource.field-0.0 _ c.from_residual-in_err-resource.ensures.1
    (Fails-items_read g.S.Source.content c.in_err-resource.field-0.0 resource_form c.args.items.now c.loop-item.item-index c.item-item.result c.loop-item-test.true c.item-item.is c.in_err-resource.ensures)

pub loop-item-preserved : goal.loop-item-preserved
loop-item-preserved g c =
    let read = c.in_ok-resource.ensures in
    let one = read.2 in
    items_more g.S.Source.content c.args.items.now c.loop-item.item-index c.item-item.result
    (record { resources = c.loop-item.resources; shown = c.loop-item.shown.items }) (record { resources = c.push_found.new.found; shown = c.push.new.self.items })
    c.loop-item-test.true c.item-item.is c.loop-item.invariant read.0 read.1
    (λ before is. pool_more before read.0 _ (record { resources = c.push_found.new.found; shown = c.push.new.self.items }) c.in_ok-resource.resource c.in_ok-resource.shows is one
    (c.in_ok-push_found.ensures resource_has_names resource_has_texts (Some (resources_of before)) (Some read.0.resource) is.resources one.resource) c.in_ok-push.ensures.items)
