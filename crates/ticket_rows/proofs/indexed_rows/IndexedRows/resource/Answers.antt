use Rattle.std.proofs.Common.{◌∙◌, sym}
use Rattle.ticket_rows.proofs.Shapes.{resource-at, resource-nowhere, resource_missing}
use Rattle.ticket_rows.proofs.indexed_rows.IndexedRows.resource.Goals as goal

pub returns-in-None : goal.returns-in-None
returns-in-None c = sym (resource_missing c.args.id.now c.args.self.now (resource-nowhere c.args.id.now c.args.self.now (sym c.in-None.ensures)))

pub returns-in-Some : goal.returns-in-Some
returns-in-Some c = c.resource_at.ensures ∙ resource-at c.args.id.now c.args.self.now c.in-Some.home c.in-Some.place c.at.result.now (sym c.in-Some.ensures) c.at.ensures
