use Rattle.std.proofs.Common.{◌∙◌, sym}
use Rattle.ticket_rows.proofs.Shapes.{resource-nowhere, resource-there}
use Rattle.ticket_rows.proofs.indexed_rows.IndexedRows.home_place.Goals as goal

pub returns-in-None : goal.returns-in-None
returns-in-None c = sym (resource-nowhere c.args.id.now c.args.self.now (sym c.in-None.ensures))

pub returns-in-Some : goal.returns-in-Some
returns-in-Some c = sym (resource-there c.args.id.now c.args.self.now c.in-Some.home _ (sym c.in-Some.ensures)).0
