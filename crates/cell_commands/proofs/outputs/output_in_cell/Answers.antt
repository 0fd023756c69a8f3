use Rattle.std.proofs.Common.{◌≡◌, true, IfErr, IfOk, refl, subst, sym}
use Rattle.std.proofs.lemmas.Result.{IfOk-weaker}
use Rattle.streams.specs.Streams.{traffic}
use Rattle.journal.specs.Line.{who}
use Rattle.file_commands.proofs.Journaled.{left_given, left_none}
use Rattle.cell_commands.specs.Calls.{IsFaultInCell, IsOutputInCell}
use Rattle.cell_commands.specs.Faults.{out_of_memory}
use Rattle.cell_commands.specs.Journaled.{JournalsInCell}
use Rattle.cell_commands.proofs.outputs.output_in_cell.Goals as goal

pub returns-in-Order-clause-refused : goal.returns-in-Order-clause-refused
returns-in-Order-clause-refused g c =
    subst (λ k. IfErr c.order_output.result (IsFaultInCell k (traffic g.I.Read.remaining c.args.reader.now c.order_output.new.reader))) (sym c.in-Order.is) c.order_output.ensures.refused

pub returns-in-Take-clause-refused : goal.returns-in-Take-clause-refused
returns-in-Take-clause-refused g c =
    subst (λ k. IfErr c.take_output.result (IsFaultInCell k (traffic g.I.Read.remaining c.args.reader.now c.take_output.new.reader))) (sym c.in-Take.is) c.take_output.ensures.refused

pub returns-in-New-clause-journal : goal.returns-in-New-clause-journal
returns-in-New-clause-journal g c =
    subst (λ k. IfOk c.new_output.result (λ noted. g.J.Journal.is_honest c.args.journal.now ≡ true → JournalsInCell g.J.Journal.held g.J.Journal.is_missed (who c.args.by) k (traffic g.I.Read.remaining c.args.reader.now c.new_output.new.reader) noted.output.text.items c.args.journal.now c.args.journal.now)) (sym c.in-New.is)
    (left_given _ _ _ _ c.new_output.result)

pub returns-in-New-clause-unsaved : goal.returns-in-New-clause-unsaved
returns-in-New-clause-unsaved g c = left_none _ (λ e. e ≡ out_of_memory) _ _ _ c.new_output.result

pub returns-in-Show-clause-journal : goal.returns-in-Show-clause-journal
returns-in-Show-clause-journal g c =
    subst (λ k. IfOk c.show_output.result (λ noted. g.J.Journal.is_honest c.args.journal.now ≡ true → JournalsInCell g.J.Journal.held g.J.Journal.is_missed (who c.args.by) k (traffic g.I.Read.remaining c.args.reader.now c.args.reader.now) noted.output.text.items c.args.journal.now c.args.journal.now)) (sym c.in-Show.is)
    (left_given _ _ _ _ c.show_output.result)

pub returns-in-Show-clause-unsaved : goal.returns-in-Show-clause-unsaved
returns-in-Show-clause-unsaved g c = left_none _ (λ e. e ≡ out_of_memory) _ _ _ c.show_output.result

pub returns-in-List-clause-journal : goal.returns-in-List-clause-journal
returns-in-List-clause-journal g c =
    subst (λ k. IfOk c.list_output.result (λ noted. g.J.Journal.is_honest c.args.journal.now ≡ true → JournalsInCell g.J.Journal.held g.J.Journal.is_missed (who c.args.by) k (traffic g.I.Read.remaining c.args.reader.now c.args.reader.now) noted.output.text.items c.args.journal.now c.args.journal.now)) (sym c.in-List.is)
    (left_given _ _ _ _ c.list_output.result)

pub returns-in-List-clause-unsaved : goal.returns-in-List-clause-unsaved
returns-in-List-clause-unsaved g c = left_none _ (λ e. e ≡ out_of_memory) _ _ _ c.list_output.result

pub returns-in-Order-clause-journal : goal.returns-in-Order-clause-journal
returns-in-Order-clause-journal g c =
    subst (λ k. IfOk c.order_output.result (λ noted. g.J.Journal.is_honest c.args.journal.now ≡ true → JournalsInCell g.J.Journal.held g.J.Journal.is_missed (who c.args.by) k (traffic g.I.Read.remaining c.args.reader.now c.order_output.new.reader) noted.output.text.items c.args.journal.now c.order_output.new.journal)) (sym c.in-Order.is) c.order_output.ensures.journal

pub returns-in-Take-clause-journal : goal.returns-in-Take-clause-journal
returns-in-Take-clause-journal g c =
    subst (λ k. IfOk c.take_output.result (λ noted. g.J.Journal.is_honest c.args.journal.now ≡ true → JournalsInCell g.J.Journal.held g.J.Journal.is_missed (who c.args.by) k (traffic g.I.Read.remaining c.args.reader.now c.take_output.new.reader) noted.output.text.items c.args.journal.now c.take_output.new.journal)) (sym c.in-Take.is) c.take_output.ensures.journal

pub returns-in-New-clause-ok : goal.returns-in-New-clause-ok
returns-in-New-clause-ok g c =
    subst (λ k. IfOk c.new_output.result (λ noted. (after : g.row.C.Denot) × IsOutputInCell g.C.Cell.is_honest (g.C.Cell.view c.args.cell).chain (g.C.Cell.view after).chain k (traffic g.I.Read.remaining c.args.reader.now c.new_output.new.reader) noted.output.text.items noted.output.refused noted.notes.items)) (sym c.in-New.is)
    (IfOk-weaker c.new_output.result _ _ (λ noted after. (after.0, after.1)) c.new_output.ensures.ok)

pub returns-in-Order-clause-ok : goal.returns-in-Order-clause-ok
returns-in-Order-clause-ok g c =
    subst (λ k. IfOk c.order_output.result (λ noted. (after : g.row.C.Denot) × IsOutputInCell g.C.Cell.is_honest (g.C.Cell.view c.args.cell).chain (g.C.Cell.view after).chain k (traffic g.I.Read.remaining c.args.reader.now c.order_output.new.reader) noted.output.text.items noted.output.refused noted.notes.items)) (sym c.in-Order.is)
    (IfOk-weaker c.order_output.result _ _ (λ noted after. (after.0, after.1)) c.order_output.ensures.ok)

pub returns-in-Take-clause-ok : goal.returns-in-Take-clause-ok
returns-in-Take-clause-ok g c =
    subst (λ k. IfOk c.take_output.result (λ noted. (after : g.row.C.Denot) × IsOutputInCell g.C.Cell.is_honest (g.C.Cell.view c.args.cell).chain (g.C.Cell.view after).chain k (traffic g.I.Read.remaining c.args.reader.now c.take_output.new.reader) noted.output.text.items noted.output.refused noted.notes.items)) (sym c.in-Take.is)
    (IfOk-weaker c.take_output.result _ _ (λ noted after. (after.0, after.1)) c.take_output.ensures.ok)

pub returns-in-Show-clause-ok : goal.returns-in-Show-clause-ok
returns-in-Show-clause-ok g c =
    subst (λ k. IfOk c.show_output.result (λ noted. (after : g.row.C.Denot) × IsOutputInCell g.C.Cell.is_honest (g.C.Cell.view c.args.cell).chain (g.C.Cell.view after).chain k (traffic g.I.Read.remaining c.args.reader.now c.args.reader.now) noted.output.text.items noted.output.refused noted.notes.items)) (sym c.in-Show.is)
    (IfOk-weaker c.show_output.result _ _ (λ noted after. (after.0, (refl, after.1))) c.show_output.ensures.ok)

pub returns-in-List-clause-ok : goal.returns-in-List-clause-ok
returns-in-List-clause-ok g c =
    subst (λ k. IfOk c.list_output.result (λ noted. (after : g.row.C.Denot) × IsOutputInCell g.C.Cell.is_honest (g.C.Cell.view c.args.cell).chain (g.C.Cell.view after).chain k (traffic g.I.Read.remaining c.args.reader.now c.args.reader.now) noted.output.text.items noted.output.refused noted.notes.items)) (sym c.in-List.is)
    (IfOk-weaker c.list_output.result _ _ (λ noted after. (after.0, (refl, after.1))) c.list_output.ensures.ok)
