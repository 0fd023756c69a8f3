use Rattle.std.proofs.Common.{◌≡◌, ◌∙◌, None, sym, subst}
use Rattle.ticket_rows.proofs.OneRows.{IsValid-replaced_resource}
use Rattle.ticket_rows.proofs.Shapes.{resource_missing}
use Rattle.ticket_rows.specs.Homes.{resource_of}
use Rattle.ticket_rows.specs.Ticket.{IsValid}
use Rattle.ticket_rows.proofs.edit.one_row.replace_resource.Goals as goal

pub returns-in-Some-clause-valid : goal.returns-in-Some-clause-valid
returns-in-Some-clause-valid c =
    subst IsValid (sym c.replace_resource.ensures) (IsValid-replaced_resource c.args.rows.now c.args.resource c.requires.valid)

pub returns-in_default-clause-rows : goal.returns-in_default-clause-rows
returns-in_default-clause-rows c =
    let unknown : resource_of c.args.rows.now c.args.resource.id ≡ None = resource_missing c.args.resource.id c.args.rows.now (sym c.in_default.ensures) in
    cc (sym unknown ∙ c.requires.may.there)
