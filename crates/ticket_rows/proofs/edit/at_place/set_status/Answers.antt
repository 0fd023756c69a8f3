use Rattle.std.proofs.Common.{ap, arith}
use Rattle.ticket_items.specs.declared.node_row.NodeRow.{NodeRow}
use Rattle.ticket_rows.proofs.Boxed.{count, set_boxed}
use Rattle.ticket_rows.proofs.edit.at_place.set_status.Goals as goal

pub index_mut-requires : goal.index_mut-requires
index_mut-requires c = omega (arith, c.requires, count c.args.rows.now.items)

pub returns : goal.returns
returns c =
    let f = λ (r : NodeRow). record r { status = c.args.status } in
    set_boxed f c.args.rows.now.items c.args.place c.index_mut.result.now _ c.requires c.index_mut.ensures.value (ap f c.deref_mut.ensures.value)
