use Rattle.std.proofs.Common.{◌≡◌, ◌∙◌, Err, Ok, IfErr, IfNone, IfSome, sym, subst}
use Rattle.ticket_items.specs.Attrs.{with_attr}
use Rattle.ticket_items.specs.declared.refusal.Refusal.TheVariants.{Memory}
use Rattle.ticket_rows.proofs.PartEdits.{held, rows_stay, copies_stay, copy_known, as_in_rows, on_ok}
use Rattle.ticket_rows.specs.Homes.{has_resource}
use Rattle.ticket_rows.proofs.edit.part_edits.set_attr_of.Goals as goal

pub returns-then-holds-clause-rows : goal.returns-then-holds-clause-rows
returns-then-holds-clause-rows c =
    rows_stay c.args.rows.now.items c.args.copies.now c.args.resource.now (λ y. record y { attrs = with_attr c.args.name c.args.value y.attrs }) c.requires (held c.args.copies.now c.as_slice.result.now c.args.resource.now _ c.as_slice.ensures c.holds.ensures ∙ c.if-holds.true)

pub returns-then-holds-clause-refused : goal.returns-then-holds-clause-refused
returns-then-holds-clause-refused c =
    subst (λ o. IfSome o (λ e. Ok tt ≡ Err e)) (sym (copy_known (has_resource c.args.rows.now.items c.args.resource.now) _ (held c.args.copies.now c.as_slice.result.now c.args.resource.now _ c.as_slice.ensures c.holds.ensures ∙ c.if-holds.true))) tt

pub returns-clause-copies : goal.returns-clause-copies
returns-clause-copies c =
    on_ok c.set_resource_attr.result _ (copies_stay c.args.copies.now c.args.resource.now (λ y. record y { attrs = with_attr c.args.name c.args.value y.attrs }) (held c.args.copies.now c.as_slice.result.now c.args.resource.now _ c.as_slice.ensures c.holds.ensures ∙ c.if-holds.false))

pub returns-clause-memory : goal.returns-clause-memory
returns-clause-memory c =
    subst (λ o. IfNone o (IfErr c.set_resource_attr.result (λ e. e ≡ Memory))) (sym (as_in_rows (has_resource c.args.rows.now.items c.args.resource.now) _ (held c.args.copies.now c.as_slice.result.now c.args.resource.now _ c.as_slice.ensures c.holds.ensures ∙ c.if-holds.false))) c.set_resource_attr.ensures.memory

pub returns-in_err-set_attr-clause-refused : goal.returns-in_err-set_attr-clause-refused
returns-in_err-set_attr-clause-refused c =
    subst (λ o. IfSome o (λ e. c.from_residual.result ≡ Err e)) (sym (copy_known (has_resource c.args.rows.now.items c.args.resource.now) _ (held c.args.copies.now c.as_slice.result.now c.args.resource.now _ c.as_slice.ensures c.holds.ensures ∙ c.if-holds.true))) tt
