use Rattle.std.proofs.Common.{sym}
use Rattle.std.specs.Str.{bytes_eq}
use Rattle.ticket_items.proofs.Places.{none_at_position}
use Rattle.ticket_rows.proofs.Reasons.{row_there}
use Rattle.ticket_rows.proofs.indexed_rows.IndexedRows.node.Goals as goal

pub returns-in-None : goal.returns-in-None
returns-in-None c = sym (none_at_position (λ r. bytes_eq r.id c.args.id.now) c.args.self.now (sym c.in-None.ensures))

pub returns-in-Some : goal.returns-in-Some
returns-in-Some c = sym (row_there c.args.self.now c.args.id.now c.in-Some.place c.at.result.now (sym c.in-Some.ensures) c.at.ensures)
