use Rattle.std.proofs.Common.{◌≡◌, true, List, ℕ}
use Rattle.std.proofs.lemmas.Result.{IfErr-weaker, IfOk-weaker}
use Rattle.cells.specs.Chain.{newest}
use Rattle.file_commands.specs.declared.noted.OutputWithNotes.{OutputWithNotes}
use Rattle.file_commands.specs.Listing.{ListsOne}
use Rattle.file_commands.specs.declared.asked.ListRequest.{ListRequest}
use Rattle.cell_commands.specs.Calls.{is_held, text_held}
use Rattle.cell_commands.specs.Faults.{IsNotTold}
use Rattle.cell_commands.proofs.Making.{err_told, told_if}
use Rattle.cell_commands.proofs.Refusing.{untold_look, untold_moment}
use Rattle.cell_commands.proofs.outputs.list_output.Goals as goal

pub returns-in_err-now-clause-refused : goal.returns-in_err-now-clause-refused
returns-in_err-now-clause-refused g c =
    err_told _ (IsNotTold c.args.at) c.from_residual.result c.from_residual.ensures.1
    (λ e is. untold_moment c.args.at c.in_err-now.field-0.0 e is c.in_err-now.ensures.refused)

pub returns-clause-ok : goal.returns-clause-ok
returns-clause-ok g c =
    let asked : ListRequest = record { is_open = c.args.is_open; is_json = c.args.is_json; now = c.in_ok-now.now } in
    IfOk-weaker c.list_in_cell.result _ _
    (λ noted told. (c.list_in_cell.new.keep.cell, (c.in_ok-now.now, c.in_ok-now.ensures.ok, told.0, told.1)))
    (told_if (g.C.Cell.is_honest ≡ true) (λ (noted : OutputWithNotes). (held : List ℕ) × ListsOne asked is_held text_held held noted.output.text.items noted.output.refused noted.notes.items)
    (λ (noted : OutputWithNotes). ListsOne asked is_held text_held (newest (g.C.Cell.view c.list_in_cell.new.keep.cell).chain).bytes noted.output.text.items noted.output.refused noted.notes.items) c.list_in_cell.result c.list_in_cell.ensures.ok c.list_in_cell.ensures.seen)

pub returns-clause-refused : goal.returns-clause-refused
returns-clause-refused g c =
    IfErr-weaker c.list_in_cell.result _ _ (λ e why. untold_look c.args.at e why) c.list_in_cell.ensures.refused
