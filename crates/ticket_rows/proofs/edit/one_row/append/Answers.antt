use Rattle.std.proofs.Common.{◌∙◌, ◌++◌, ◌∷◌, [], sym, subst}
use Rattle.std.specs.Str.{bytes_eq}
use Rattle.ticket_items.proofs.Places.{below_length}
use Rattle.ticket_rows.proofs.AtPlaces.{row_at_place}
use Rattle.ticket_rows.proofs.Changes.{IsValid-with_row}
use Rattle.ticket_rows.proofs.OneRows.{keeps-append}
use Rattle.ticket_rows.specs.Ticket.{IsValid}
use Rattle.ticket_rows.proofs.edit.one_row.append.Goals as goal

pub append-requires : goal.append-requires
append-requires c = below_length (λ r. bytes_eq r.id c.args.node.now) c.args.rows.now c.in_ok-place.place c.in_ok-place.ensures.place

pub returns-clause-ok : goal.returns-clause-ok
returns-clause-ok c =
    c.in_ok-append.ensures.ok
    ∙ row_at_place c.args.node.now (λ r. record r { audits = r.audits ++ c.args.audit ∷ [] }) c.args.rows.now c.in_ok-place.place c.requires.distinct c.in_ok-place.ensures.place

pub returns-clause-valid : goal.returns-clause-valid
returns-clause-valid c =
    subst IsValid (sym (returns-clause-ok c)) (IsValid-with_row c.args.node.now _ c.args.rows.now (keeps-append c.args.audit) c.requires)
