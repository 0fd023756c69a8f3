use Rattle.std.proofs.Common.{◌∙◌, Some, ap, sym}
use Rattle.std.specs.Option.{option_or}
use Rattle.ticket_items.specs.Edit.{target}
use Rattle.ticket_rows.specs.Edit.{lookups, refusal_of}
use Rattle.ticket_rows.specs.EditRefusal.{later_refusal, unknown_refusal}
use Rattle.ticket_rows.specs.Ticket.{Job}
use Rattle.ticket_items.specs.Act.{act_of}
use Rattle.master_core.proofs.EditReasons.{later_first, unknown_is}
use Rattle.master_core.specs.Orders.{not_held}
use Rattle.master_core.proofs.master.Master.edit_refusal.Goals as goal

pub returns-in_default : goal.returns-in_default
returns-in_default c =
    let e = c.args.edit.now in
    let w = c.args.self.now in
    let at = lookups w.ticket.rows in
    let told = c.not_held-in_default.ensures ∙ ap (not_held w) c.target-in_default.ensures in
    c.or.ensures
    ∙ ap (λ o. option_or o (Some c.in-Err.refusal)) told
    ∙ later_first (unknown_refusal e at) (not_held w (target e)) (later_refusal e at) c.in-Err.refusal (unknown_is (act_of e) at) (ap (λ (t : Job). refusal_of e t.rows) (sym c.ticket.ensures) ∙ c.in-Err.ensures) c.in_default.not-UnknownNode c.in_default.not-UnknownResource
