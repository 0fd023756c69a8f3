use Rattle.std.proofs.Common.{◌∙◌, sym}
use Rattle.peers_file.proofs.RowsRead.{no_row, row_there}
use Rattle.peers_file.proofs.rows.row_of.Goals as goal

pub returns-in-Some-2 : goal.returns-in-Some-2
returns-in-Some-2 c =
    row_there c.args.pattern.now c.args.url.now c.in-Some.pattern c.in-Some-2.destination (sym c.in-Some.is ∙ c.in_ok-pattern.ensures)
    (sym c.in-Some-2.is ∙ c.in_ok-destination.ensures)

pub returns-in-None : goal.returns-in-None
returns-in-None c = no_row c.args.pattern.now c.args.url.now (sym c.in-None.is ∙ c.in_ok-destination.ensures)
