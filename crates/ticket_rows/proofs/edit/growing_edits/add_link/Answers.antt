use Rattle.std.proofs.Common.{◌++◌, ◌∷◌, [], ◌∙◌, ap, arith}
use Rattle.ticket_items.specs.declared.node_row.NodeRow.{NodeRow}
use Rattle.ticket_rows.proofs.Boxed.{count, on_err, set_boxed, stays_boxed}
use Rattle.ticket_rows.proofs.edit.growing_edits.add_link.Goals as goal

pub index_mut-requires : goal.index_mut-requires
index_mut-requires c = omega (arith, c.requires, count c.args.rows.now.items)

pub returns-clause-ok : goal.returns-clause-ok
returns-clause-ok c =
    let f = λ (r : NodeRow). record r { links = r.links ++ c.args.link ∷ [] } in
    let s = c.deref_mut.result.now in
    set_boxed f c.args.rows.now.items c.args.place c.index_mut.result.now _ c.requires c.index_mut.ensures.value (ap (λ part. record s { links = part }) c.in_ok-push.ensures.ok ∙ ap f c.deref_mut.ensures.value)

pub returns-in_err-push-clause-err : goal.returns-in_err-push-clause-err
returns-in_err-push-clause-err c =
    let s = c.deref_mut.result.now in
    on_err c.from_residual.result (stays_boxed c.args.rows.now.items c.args.place c.index_mut.result.now _ c.index_mut.ensures.value (ap (λ part. record s { links = part }) c.in_err-push.ensures.err ∙ c.deref_mut.ensures.value))
