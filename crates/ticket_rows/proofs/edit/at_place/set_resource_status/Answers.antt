use Rattle.std.proofs.Common.{◌∙◌, ap, arith}
use Rattle.ticket_items.proofs.Places.{below_length}
use Rattle.ticket_items.specs.declared.resource.Resource.{Resource}
use Rattle.ticket_rows.proofs.AtHome.{holds}
use Rattle.ticket_rows.proofs.Boxed.{apart_in, count, pool_boxed}
use Rattle.ticket_rows.proofs.Changes.{with_pool}
use Rattle.ticket_rows.specs.Boxed.{contents}
use Rattle.ticket_rows.proofs.edit.at_place.set_resource_status.Goals as goal

pub index_mut-requires : goal.index_mut-requires
index_mut-requires c =
    omega (arith, below_length (holds c.args.resource.now) (contents c.args.rows.now.items) c.args.home c.requires.home, count c.args.rows.now.items)

pub set_status-requires : goal.set_status-requires
set_status-requires c = apart_in c.args.resource.now c.args.rows.now.items c.args.home c.index_mut.result.now c.deref_mut.result.now c.requires.distinct c.requires.home c.index_mut.ensures.value c.deref_mut.ensures.value

pub returns : goal.returns
returns c =
    let f = λ (y : Resource). record y { status = c.args.status } in
    let s = c.deref_mut.result.now in
    pool_boxed c.args.resource.now f c.args.rows.now.items c.args.home c.index_mut.result.now _ c.requires.distinct c.requires.home c.index_mut.ensures.value
    (ap (λ pool. record s { resources = pool }) c.set_status.ensures ∙ ap (with_pool c.args.resource.now f) c.deref_mut.ensures.value)
