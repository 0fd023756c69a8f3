use Rattle.std.proofs.Common.{◌≡◌, ◌∙◌, Err, Ok, IfNone, IfSome, IsOk, sym, subst}
use Rattle.ticket_rows.proofs.PartEdits.{held, rows_stay, copies_stay, copy_known, as_in_rows, on_ok}
use Rattle.ticket_rows.specs.Homes.{has_resource}
use Rattle.ticket_rows.proofs.edit.part_edits.set_status_of.Goals as goal

pub returns-then-holds-clause-rows : goal.returns-then-holds-clause-rows
returns-then-holds-clause-rows c =
    rows_stay c.args.rows.now.items c.args.copies.now c.args.resource.now (λ y. record y { status = c.args.status }) c.requires (held c.args.copies.now c.as_slice.result.now c.args.resource.now _ c.as_slice.ensures c.holds.ensures ∙ c.if-holds.true)

pub returns-then-holds-clause-refused : goal.returns-then-holds-clause-refused
returns-then-holds-clause-refused c =
    subst (λ o. IfSome o (λ e. Ok tt ≡ Err e)) (sym (copy_known (has_resource c.args.rows.now.items c.args.resource.now) _ (held c.args.copies.now c.as_slice.result.now c.args.resource.now _ c.as_slice.ensures c.holds.ensures ∙ c.if-holds.true))) tt

pub returns-clause-copies : goal.returns-clause-copies
returns-clause-copies c =
    on_ok c.set_resource_status.result _ (copies_stay c.args.copies.now c.args.resource.now (λ y. record y { status = c.args.status }) (held c.args.copies.now c.as_slice.result.now c.args.resource.now _ c.as_slice.ensures c.holds.ensures ∙ c.if-holds.false))

pub returns-clause-memory : goal.returns-clause-memory
returns-clause-memory c =
    subst (λ o. IfNone o (IsOk c.set_resource_status.result)) (sym (as_in_rows (has_resource c.args.rows.now.items c.args.resource.now) _ (held c.args.copies.now c.as_slice.result.now c.args.resource.now _ c.as_slice.ensures c.holds.ensures ∙ c.if-holds.false))) c.set_resource_status.ensures.memory
