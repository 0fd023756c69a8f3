use Rattle.std.proofs.Common.{◌≡◌, ◌∙◌, [], true, ap, inl, inr, option_map, subst, sym}
use Rattle.jmf_message.specs.Decoded.{IsRefusalOf as IsUndecoded}
use Rattle.streams.specs.Streams.{traffic}
use Rattle.stored_state.specs.AnyStep.{IsHanded}
use Rattle.file_commands.specs.Notes.{no_notes}
use Rattle.cell_commands.specs.Faults.{DoesNone}
use Rattle.cell_commands.proofs.Giving.{does_step}
use Rattle.cell_commands.proofs.Making.{err_told}
use Rattle.cell_commands.proofs.Refusing.{memory_none}
use Rattle.file_commands.specs.Journaled.{IsMessageLine}
use Rattle.cell_commands.specs.Given.{GivesStep}
use Rattle.cell_commands.specs.Journaled.{JournalsNone}
use Rattle.cell_commands.specs.declared.cell_fault.CellFault.TheVariants.{Call}
use Rattle.cell_commands.proofs.Giving.{any_line}
use Rattle.cell_commands.proofs.outputs.take_output.Goals as goal

pub returns-in_err-given-clause-refused : goal.returns-in_err-given-clause-refused
returns-in_err-given-clause-refused g c =
    let input = traffic g.I.Read.remaining c.args.reader.now c.take_in_cell.new.reader in
    err_told _ (DoesNone (λ bytes _. IsUndecoded bytes) input) c.from_residual.result c.from_residual.ensures.1
    (λ e is. subst (DoesNone (λ bytes _. IsUndecoded bytes) input) (sym is) c.in_err-given.ensures.refused)

pub returns-in_err-output-clause-refused : goal.returns-in_err-output-clause-refused
returns-in_err-output-clause-refused g c =
    let input = traffic g.I.Read.remaining c.args.reader.now c.take_in_cell.new.reader in
    let gives = c.in_ok-given.ensures.ok in
    err_told _ (DoesNone (λ bytes _. IsUndecoded bytes) input) c.from_residual-in_err-output.result c.from_residual-in_err-output.ensures.1
    (λ e is. memory_none (λ bytes _. IsUndecoded bytes) input gives.0 c.in_err-output.field-0.0 e gives.1 is c.in_err-output.ensures.memory)

pub returns-clause-ok : goal.returns-clause-ok
returns-clause-ok g c =
    let given = c.in_ok-given.given in
    let input = traffic g.I.Read.remaining c.args.reader.now c.take_in_cell.new.reader in
    let new = (g.C.Cell.view c.take_in_cell.new.keep.cell).chain in (
      c.take_in_cell.new.keep.cell,
      does_step (IsHanded c.args.at) no_notes g.C.Cell.is_honest (g.C.Cell.view c.args.cell).chain new input given.reply (option_map (λ b. b.items) given.answer) [] _ _ _
          (subst (λ keep. GivesStep (IsHanded c.args.at) g.C.Cell.is_honest (g.C.Cell.view keep.cell).chain new input given.reply (option_map (λ b. b.items) given.answer) (no_notes given.reply) []) c.over-keep.ensures c.in_ok-given.ensures.ok)
          c.in_ok-output.ensures.lines c.in_ok-output.ensures.status c.new.ensures.items,
    )

pub returns-in_err-given-clause-unsaved : goal.returns-in_err-given-clause-unsaved
returns-in_err-given-clause-unsaved g c =
    err_told _ (λ e. g.J.Journal.is_honest c.args.journal.now ≡ true → JournalsNone g.J.Journal.held g.J.Journal.is_missed c.args.journal.now c.take_in_cell.new.journal e) c.from_residual.result c.from_residual.ensures.1
    (λ e is. subst (λ x. g.J.Journal.is_honest c.args.journal.now ≡ true → JournalsNone g.J.Journal.held g.J.Journal.is_missed c.args.journal.now c.take_in_cell.new.journal x) (sym is) (λ honest. inl (c.in_err-given.ensures.unsaved honest)))

pub returns-in_err-output-clause-unsaved : goal.returns-in_err-output-clause-unsaved
returns-in_err-output-clause-unsaved g c =
    err_told _ (λ e. g.J.Journal.is_honest c.args.journal.now ≡ true → JournalsNone g.J.Journal.held g.J.Journal.is_missed c.args.journal.now c.take_in_cell.new.journal e) c.from_residual-in_err-output.result c.from_residual-in_err-output.ensures.1
    (λ e is honest. inr (is ∙ ap Call c.in_err-output.ensures.memory))

pub returns-clause-journal : goal.returns-clause-journal
returns-clause-journal g c = λ honest.
    let given = c.in_ok-given.given in (
      given.reply,
      option_map (λ b. b.items) given.answer,
      any_line (IsHanded c.args.at) g.C.Cell.is_honest (g.C.Cell.view c.over-keep.result.cell).chain (g.C.Cell.view c.take_in_cell.new.keep.cell).chain
          (traffic g.I.Read.remaining c.args.reader.now c.take_in_cell.new.reader) given.reply (option_map (λ b. b.items) given.answer) g.J.Journal.held g.J.Journal.is_missed (λ name bytes. IsMessageLine name c.args.at bytes) c.args.journal.now c.take_in_cell.new.journal
          (c.in_ok-given.ensures.journal honest),
      c.in_ok-output.ensures.lines,
    )
