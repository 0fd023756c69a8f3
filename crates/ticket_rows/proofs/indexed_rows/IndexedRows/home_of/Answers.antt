use Rattle.std.proofs.Common.{◌∙◌, sym}
use Rattle.ticket_rows.proofs.AtHome.{home_row, home-found}
use Rattle.ticket_rows.proofs.Shapes.{home_missing}
use Rattle.ticket_rows.proofs.indexed_rows.IndexedRows.home_of.Goals as goal

pub returns-in-None : goal.returns-in-None
returns-in-None c = sym (home_missing c.args.id.now c.args.self.now (sym c.in-None.ensures))

pub returns-in-Some : goal.returns-in-Some
returns-in-Some c =
    let r = c.at.result.now in
    sym (home-found c.args.self.now c.args.id.now r (home_row c.args.self.now c.args.id.now c.in-Some.home r (sym c.in-Some.ensures) c.at.ensures))
