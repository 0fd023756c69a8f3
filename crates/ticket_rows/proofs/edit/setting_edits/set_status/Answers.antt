use Rattle.std.proofs.Common.{◌∙◌, sym, ap, arith}
use Rattle.std.specs.List.{position}
use Rattle.std.specs.Str.{bytes_eq}
use Rattle.ticket_items.proofs.Places.{below_length}
use Rattle.ticket_items.specs.declared.node_row.NodeRow.{NodeRow}
use Rattle.ticket_rows.proofs.AtPlaces.{row_at_place, set_at}
use Rattle.ticket_rows.proofs.edit.setting_edits.set_status.Goals as goal

pub index_mut-requires : goal.index_mut-requires
index_mut-requires c =
    omega (arith, below_length (λ r. bytes_eq r.id c.args.node.now) c.args.rows.now.items c.in_ok-place.place (ap (position (λ r. bytes_eq r.id c.args.node.now)) (sym c.as_slice.ensures.value) ∙ c.in_ok-place.ensures.place))

pub returns-clause-ok : goal.returns-clause-ok
returns-clause-ok c =
    let found = ap (position (λ r. bytes_eq r.id c.args.node.now)) (sym c.as_slice.ensures.value) ∙ c.in_ok-place.ensures.place in
    let within = below_length (λ r. bytes_eq r.id c.args.node.now) c.args.rows.now.items c.in_ok-place.place found in
    set_at (λ (r : NodeRow). record r { status = c.args.status }) c.args.rows.now.items c.in_ok-place.place c.index_mut.result.now within c.index_mut.ensures.value
    ∙ row_at_place c.args.node.now (λ r. record r { status = c.args.status }) c.args.rows.now.items c.in_ok-place.place c.requires found
