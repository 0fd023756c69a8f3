use Rattle.std.proofs.Common.{◌∙◌, ap, arith}
use Rattle.ticket_items.specs.Attrs.{with_attr}
use Rattle.ticket_items.specs.declared.node_row.NodeRow.{NodeRow}
use Rattle.ticket_rows.proofs.Boxed.{count, on_err, set_boxed, stays_boxed}
use Rattle.ticket_rows.proofs.edit.at_place.set_attr.Goals as goal

pub index_mut-requires : goal.index_mut-requires
index_mut-requires c = omega (arith, c.requires, count c.args.rows.now.items)

pub returns-clause-ok : goal.returns-clause-ok
returns-clause-ok c =
    let f = λ (r : NodeRow). record r { attrs = with_attr c.args.name c.args.value r.attrs } in
    let s = c.deref_mut.result.now in
    set_boxed f c.args.rows.now.items c.args.place c.index_mut.result.now _ c.requires c.index_mut.ensures.value (ap (λ part. record s { attrs = part }) c.in_ok-set.ensures.ok ∙ ap f c.deref_mut.ensures.value)

pub returns-in_err-set-clause-err : goal.returns-in_err-set-clause-err
returns-in_err-set-clause-err c =
    let s = c.deref_mut.result.now in
    on_err c.from_residual.result (stays_boxed c.args.rows.now.items c.args.place c.index_mut.result.now _ c.index_mut.ensures.value (ap (λ part. record s { attrs = part }) c.in_err-set.ensures.err ∙ c.deref_mut.ensures.value))
