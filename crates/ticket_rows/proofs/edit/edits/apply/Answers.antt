use Rattle.std.proofs.Common.{sym, subst}
use Rattle.ticket_rows.proofs.EditedValid.{IsValid-edited}
use Rattle.ticket_rows.specs.Ticket.{IsValid}
use Rattle.ticket_rows.proofs.edit.edits.apply.Goals as goal

pub returns-clause-valid : goal.returns-clause-valid
returns-clause-valid c =
    subst IsValid (sym c.in_ok-change.ensures.ok) (IsValid-edited c.args.edit c.args.at c.args.rows.now c.requires c.in_ok-place.ensures.refusal)
