use Rattle.std.proofs.Common.{◌∙◌, refl, sym, ap, slice_set, arith}
use Rattle.std.specs.List.{position}
use Rattle.ticket_items.proofs.Places.{below_length}
use Rattle.ticket_rows.proofs.AtHome.{holds}
use Rattle.ticket_rows.proofs.Changes.{change_pool_at, home_at_place, pool_apart}
use Rattle.ticket_rows.proofs.edit.setting_edits.set_resource_status.Goals as goal

pub index_mut-requires : goal.index_mut-requires
index_mut-requires c =
    omega (arith, below_length (holds c.args.resource.now) c.args.rows.now.items c.in_ok-home.home (ap (position (holds c.args.resource.now)) (sym c.as_slice.ensures.value) ∙ c.in_ok-home.ensures.place))

pub set_status-requires : goal.set_status-requires
set_status-requires c =
    let s = c.index_mut.result.now in
    let found = ap (position (holds c.args.resource.now)) (sym c.as_slice.ensures.value) ∙ c.in_ok-home.ensures.place in
    pool_apart c.args.rows.now.items c.in_ok-home.home s c.requires (home_at_place c.args.resource.now c.args.rows.now.items _ c.in_ok-home.home s refl found c.index_mut.ensures.value)

pub returns-clause-ok : goal.returns-clause-ok
returns-clause-ok c =
    let s = c.index_mut.result.now in
    let found = ap (position (holds c.args.resource.now)) (sym c.as_slice.ensures.value) ∙ c.in_ok-home.ensures.place in
    ap (λ pool. slice_set c.args.rows.now.items c.in_ok-home.home (record s { resources = pool })) c.set_status.ensures
    ∙ change_pool_at c.args.resource.now (λ y. record y { status = c.args.status }) c.args.rows.now.items _ c.in_ok-home.home s refl c.requires found c.index_mut.ensures.value
