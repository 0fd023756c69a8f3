use Rattle.std.proofs.Common.{subst, sym}
use Rattle.streams.specs.Streams.{traffic}
use Rattle.cell_commands.specs.Calls.{BeginsNone}
use Rattle.cell_commands.proofs.Making.{err_told}
use Rattle.cell_commands.proofs.outputs.new_output.Goals as goal

pub returns-in_err-noted-clause-refused : goal.returns-in_err-noted-clause-refused
returns-in_err-noted-clause-refused g c =
    let input = traffic g.I.Read.remaining c.args.reader.now c.new_in_cell.new.reader in
    err_told _ (BeginsNone input) c.from_residual.result c.from_residual.ensures.1
    (λ e is. subst (BeginsNone input) (sym is) c.in_err-noted.ensures.refused)

pub returns-clause-ok : goal.returns-clause-ok
returns-clause-ok g c = (c.in_ok-noted.keep.cell, c.in_ok-noted.ensures.ok)
