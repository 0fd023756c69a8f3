use Rattle.std.proofs.Common.{◌≡◌, true, List, ℕ}
use Rattle.std.proofs.lemmas.Result.{IfErr-weaker, IfOk-weaker}
use Rattle.cells.specs.Chain.{newest}
use Rattle.file_commands.specs.declared.noted.OutputWithNotes.{OutputWithNotes}
use Rattle.file_commands.specs.Commands.{Shows}
use Rattle.cell_commands.specs.Calls.{has_no_place, is_held, text_held}
use Rattle.cell_commands.specs.Faults.{IsNotTold}
use Rattle.cell_commands.proofs.Making.{err_told, told_if}
use Rattle.cell_commands.proofs.Refusing.{untold_look, untold_moment}
use Rattle.cell_commands.proofs.outputs.show_output.Goals as goal

pub returns-in_err-now-clause-refused : goal.returns-in_err-now-clause-refused
returns-in_err-now-clause-refused g c =
    err_told _ (IsNotTold c.args.at) c.from_residual.result c.from_residual.ensures.1
    (λ e is. untold_moment c.args.at c.in_err-now.field-0.0 e is c.in_err-now.ensures.refused)

pub returns-clause-ok : goal.returns-clause-ok
returns-clause-ok g c =
    IfOk-weaker c.show_in_cell.result _ _
    (λ noted told. (c.show_in_cell.new.keep.cell, (c.in_ok-now.now, c.in_ok-now.ensures.ok, told.0, told.1)))
    (told_if (g.C.Cell.is_honest ≡ true) (λ (noted : OutputWithNotes). (held : List ℕ) × Shows c.args.picture c.in_ok-now.now is_held text_held has_no_place held noted.output.text.items noted.output.refused noted.notes.items)
    (λ (noted : OutputWithNotes). Shows c.args.picture c.in_ok-now.now is_held text_held has_no_place (newest (g.C.Cell.view c.show_in_cell.new.keep.cell).chain).bytes noted.output.text.items noted.output.refused noted.notes.items) c.show_in_cell.result c.show_in_cell.ensures.ok c.show_in_cell.ensures.seen)

pub returns-clause-refused : goal.returns-clause-refused
returns-clause-refused g c =
    IfErr-weaker c.show_in_cell.result _ _ (λ e why. untold_look c.args.at e why) c.show_in_cell.ensures.refused
