use Rattle.std.proofs.Common.{◌∙◌, ◌-◌, ap, drop, sym, take}
use Rattle.ticket_rows.proofs.Boxed.{run_in}
use Rattle.ticket_rows.specs.Boxed.{rows_of}
use Rattle.ticket_rows.proofs.rows_iter.Run.between.Goals as goal

pub returns-in-Boxed : goal.returns-in-Boxed
returns-in-Boxed c =
    run_in c.in-Boxed.boxes.now (c.args.to - c.args.from) c.args.from ∙ ap (λ r. take (c.args.to - c.args.from) (drop c.args.from (rows_of r))) (sym c.in-Boxed.is)
