use Rattle.std.proofs.Common.{◌≡◌, true, IfErr, IfOk, subst, sym}
use Rattle.ticket_items.specs.declared.refusal.Refusal.TheVariants.{Memory}
use Rattle.streams.specs.Streams.{traffic}
use Rattle.streams.specs.declared.fault.Fault.TheVariants.{Input}
use Rattle.streams.specs.declared.refused.Refused.TheVariants.{Core}
use Rattle.file_commands.specs.Ends.{IsFaultInFile}
use Rattle.file_commands.specs.Journaled.{JournalsInFile}
use Rattle.file_commands.proofs.Journaled.{left_given, left_none}
use Rattle.file_commands.proofs.run.output_in_file.Goals as goal

pub returns-in-Order-clause-refused : goal.returns-in-Order-clause-refused
returns-in-Order-clause-refused g c =
    subst (λ k. IfErr c.order_output.result (IsFaultInFile c.args.file.now k (traffic g.I.Read.remaining c.args.reader.now c.order_output.new.reader))) (sym c.in-Order.is) c.order_output.ensures.refused

pub returns-in-Take-clause-refused : goal.returns-in-Take-clause-refused
returns-in-Take-clause-refused g c =
    subst (λ k. IfErr c.take_output.result (IsFaultInFile c.args.file.now k (traffic g.I.Read.remaining c.args.reader.now c.take_output.new.reader))) (sym c.in-Take.is) c.take_output.ensures.refused

pub returns-in-New-clause-journal : goal.returns-in-New-clause-journal
returns-in-New-clause-journal g c =
    subst (λ k. IfOk c.new_in_file.result (λ noted. g.J.Journal.is_honest c.args.journal.now ≡ true → JournalsInFile g.J.Journal.held g.J.Journal.is_missed c.args.file.now k (traffic g.I.Read.remaining c.args.reader.now c.new_in_file.new.reader) noted.output.text.items c.args.journal.now c.args.journal.now)) (sym c.in-New.is)
    (left_given _ _ _ _ c.new_in_file.result)

pub returns-in-New-clause-unsaved : goal.returns-in-New-clause-unsaved
returns-in-New-clause-unsaved g c = left_none _ (λ fault. fault ≡ Input (Core Memory)) _ _ _ c.new_in_file.result

pub returns-in-Show-clause-journal : goal.returns-in-Show-clause-journal
returns-in-Show-clause-journal g c =
    subst (λ k. IfOk c.show_output.result (λ noted. g.J.Journal.is_honest c.args.journal.now ≡ true → JournalsInFile g.J.Journal.held g.J.Journal.is_missed c.args.file.now k (traffic g.I.Read.remaining c.args.reader.now c.args.reader.now) noted.output.text.items c.args.journal.now c.args.journal.now)) (sym c.in-Show.is)
    (left_given _ _ _ _ c.show_output.result)

pub returns-in-Show-clause-unsaved : goal.returns-in-Show-clause-unsaved
returns-in-Show-clause-unsaved g c = left_none _ (λ fault. fault ≡ Input (Core Memory)) _ _ _ c.show_output.result

pub returns-in-List-clause-journal : goal.returns-in-List-clause-journal
returns-in-List-clause-journal g c =
    subst (λ k. IfOk c.list_output.result (λ noted. g.J.Journal.is_honest c.args.journal.now ≡ true → JournalsInFile g.J.Journal.held g.J.Journal.is_missed c.args.file.now k (traffic g.I.Read.remaining c.args.reader.now c.args.reader.now) noted.output.text.items c.args.journal.now c.args.journal.now)) (sym c.in-List.is)
    (left_given _ _ _ _ c.list_output.result)

pub returns-in-List-clause-unsaved : goal.returns-in-List-clause-unsaved
returns-in-List-clause-unsaved g c = left_none _ (λ fault. fault ≡ Input (Core Memory)) _ _ _ c.list_output.result

pub returns-in-Order-clause-journal : goal.returns-in-Order-clause-journal
returns-in-Order-clause-journal g c =
    subst (λ k. IfOk c.order_output.result (λ noted. g.J.Journal.is_honest c.args.journal.now ≡ true → JournalsInFile g.J.Journal.held g.J.Journal.is_missed c.args.file.now k (traffic g.I.Read.remaining c.args.reader.now c.order_output.new.reader) noted.output.text.items c.args.journal.now c.order_output.new.journal)) (sym c.in-Order.is) c.order_output.ensures.journal

pub returns-in-Take-clause-journal : goal.returns-in-Take-clause-journal
returns-in-Take-clause-journal g c =
    subst (λ k. IfOk c.take_output.result (λ noted. g.J.Journal.is_honest c.args.journal.now ≡ true → JournalsInFile g.J.Journal.held g.J.Journal.is_missed c.args.file.now k (traffic g.I.Read.remaining c.args.reader.now c.take_output.new.reader) noted.output.text.items c.args.journal.now c.take_output.new.journal)) (sym c.in-Take.is) c.take_output.ensures.journal
