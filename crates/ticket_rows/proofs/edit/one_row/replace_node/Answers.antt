use Rattle.std.proofs.Common.{◌∙◌, refl, sym, subst}
use Rattle.ticket_items.proofs.AtKey.{unwritten}
use Rattle.ticket_rows.proofs.Changes.{change_at}
use Rattle.ticket_rows.proofs.OneRows.{IsValid-replaced_node, shape_at_position}
use Rattle.ticket_rows.specs.Ticket.{IsValid}
use Rattle.ticket_rows.proofs.edit.one_row.replace_node.Goals as goal

pub replace-requires : goal.replace-requires
replace-requires c = shape_at_position c.args.rows.now c.args.row c.in-Some.place c.at.result.now c.requires.may (sym c.in-Some.ensures) c.at.ensures

pub returns-in-Some-clause-rows : goal.returns-in-Some-clause-rows
returns-in-Some-clause-rows c =
    c.replace.ensures
    ∙ change_at c.args.row.id (λ r. record c.args.row { depth = r.depth }) c.args.rows.now c.args.rows.now c.in-Some.place c.at.result.now refl c.requires.valid.distinct (sym c.in-Some.ensures) c.at.ensures

pub returns-in-Some-clause-valid : goal.returns-in-Some-clause-valid
returns-in-Some-clause-valid c =
    subst IsValid (sym (returns-in-Some-clause-rows c)) (IsValid-replaced_node c.args.rows.now c.args.row c.requires.may c.requires.valid)

pub returns-in_default-clause-rows : goal.returns-in_default-clause-rows
returns-in_default-clause-rows c =
    sym (unwritten (λ r. r.id) c.args.row.id (λ r. record c.args.row { depth = r.depth }) c.args.rows.now c.args.rows.now refl (sym c.in_default.ensures))
