use Rattle.std.proofs.Common.{inr, refl, subst, sym}
use Rattle.streams.specs.Streams.{traffic}
use Rattle.cell_commands.specs.Calls.{IsFaultInCell}
use Rattle.cell_commands.proofs.AnyCall.{memory_called}
use Rattle.cell_commands.proofs.Giving.{any_output}
use Rattle.journal.specs.Line.{who}
use Rattle.std.proofs.lemmas.Result.{IfOk-weaker}
use Rattle.cell_commands.proofs.run.output_at.Goals as goal

pub returns-in-Err-clause-refused : goal.returns-in-Err-clause-refused
returns-in-Err-clause-refused g c =
    let input = traffic g.I.Read.remaining c.args.reader.now c.args.reader.now in
    subst (IsFaultInCell c.args.call input) (sym c.from.ensures) (memory_called c.args.call input refl)

pub returns-in-Err-clause-unsaved : goal.returns-in-Err-clause-unsaved
returns-in-Err-clause-unsaved g c = λ honest. inr c.from.ensures

pub returns-clause-journal : goal.returns-clause-journal
returns-clause-journal g c =
    IfOk-weaker c.output_in_cell.result _ _ (λ noted all honest. (who c.text_of.result, all honest)) c.output_in_cell.ensures.journal

pub returns-clause-ok : goal.returns-clause-ok
returns-clause-ok g c =
    IfOk-weaker c.output_in_cell.result _ _ (λ noted is. any_output _ _ _ c.args.call _ _ _ _ is.1) c.output_in_cell.ensures.ok
