use Rattle.std.proofs.Common.{◌∙◌, ap, length, sym}
use Rattle.ticket_rows.proofs.Boxed.{count}
use Rattle.ticket_rows.specs.Boxed.{rows_of}
use Rattle.ticket_rows.proofs.rows_iter.Run.len.Goals as goal

pub returns-in-Boxed : goal.returns-in-Boxed
returns-in-Boxed c = sym (count c.in-Boxed.boxes.now) ∙ ap (λ r. length (rows_of r)) (sym c.in-Boxed.is)
