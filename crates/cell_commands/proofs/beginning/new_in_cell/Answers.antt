use Rattle.std.proofs.Common.{◌≡◌, ◌⊎◌, inl, inr, refl, subst, sym}
use Rattle.streams.specs.Streams.{IsInput, traffic}
use Rattle.cell_commands.specs.Calls.{BeginsNone}
use Rattle.cell_commands.specs.Faults.{IsUnloaded}
use Rattle.cell_commands.specs.declared.cell_fault.CellFault.{CellFault}
use Rattle.cell_commands.specs.declared.cell_fault.CellFault.TheVariants.{Taken}
use Rattle.cell_commands.proofs.Begun.{none_of_bytes, none_of_input, none_saved}
use Rattle.cell_commands.proofs.FirstHeld.{saved_first}
use Rattle.cell_commands.proofs.Making.{err_told}
use Rattle.cell_commands.proofs.Revisions.{some_none}
use Rattle.cell_commands.proofs.beginning.new_in_cell.Goals as goal

pub returns-in_err-cell-clause-refused : goal.returns-in_err-cell-clause-refused
returns-in_err-cell-clause-refused g c =
    err_told _ (BeginsNone (traffic g.I.Read.remaining c.args.reader.now c.args.reader.now)) c.from_residual.result c.from_residual.ensures.1
    (λ e is. inl (refl, subst (λ (f : CellFault). (f ≡ Taken) ⊎ IsUnloaded f) (sym is) c.in_err-cell.ensures.refused))

pub returns-in_err-input-clause-refused : goal.returns-in_err-input-clause-refused
returns-in_err-input-clause-refused g c =
    err_told _ (BeginsNone (traffic g.I.Read.remaining c.args.reader.now c.read_input.new.reader)) c.from_residual-in_err-input.result c.from_residual-in_err-input.ensures.1
    (λ e is. inr (inl (c.in_err-input.field-0.0, c.in_err-input.ensures.err, is)))

pub returns-in_err-text-clause-refused : goal.returns-in_err-text-clause-refused
returns-in_err-text-clause-refused g c =
    let input = traffic g.I.Read.remaining c.args.reader.now c.read_input.new.reader in
    err_told _ (BeginsNone input) c.from_residual-in_err-text.result c.from_residual-in_err-text.ensures.1
    (λ e is. none_of_input input c.as_slice.result.now e (subst (IsInput input) (sym c.as_slice.ensures.value) c.in_ok-input.ensures.ok)
    (none_of_bytes c.as_slice.result.now c.in_err-text.field-0.0 e is c.in_err-text.ensures.refused))

pub returns-in_err-save_first-clause-refused : goal.returns-in_err-save_first-clause-refused
returns-in_err-save_first-clause-refused g c =
    let input = traffic g.I.Read.remaining c.args.reader.now c.read_input.new.reader in
    err_told _ (BeginsNone input) c.from_residual-in_err-save_first.result c.from_residual-in_err-save_first.ensures.1
    (λ e is. none_of_input input c.as_slice.result.now e (subst (IsInput input) (sym c.as_slice.ensures.value) c.in_ok-input.ensures.ok)
    (none_saved c.as_slice.result.now c.in_err-save_first.field-0.0 e is c.in_err-save_first.ensures.refused))

pub returns-clause-ok : goal.returns-clause-ok
returns-clause-ok g c =
    let input = traffic g.I.Read.remaining c.args.reader.now c.read_input.new.reader in
    let begun = c.in_ok-text.ensures.ok in
    record {
      bytes = c.as_slice.result.now;
      is_input = subst (IsInput input) (sym c.as_slice.ensures.value) c.in_ok-input.ensures.ok;
      controller = begun.0;
      beginning = begun.1;
      begun = λ honest.
          saved_first g.C.Cell.view (g.C.Cell.view c.args.cell).chain c.in_ok-cell.cell c.over_new-keep.result (g.C.Cell.view c.save_first.new.keep.cell) begun.0 c.in_ok-text.text.items c.as_slice-2.result.now
          (c.in_ok-cell.ensures.grows honest) c.over_new-keep.ensures begun.2 c.as_slice-2.ensures.value (λ rests. c.in_ok-save_first.ensures.made honest rests);
      written = c.nothing_written.ensures.text;
      accepted = c.nothing_written.ensures.accepted;
      noted = c.nothing_written.ensures.notes;
    }

pub returns-in_err-cell-clause-untouched : goal.returns-in_err-cell-clause-untouched
returns-in_err-cell-clause-untouched g c honest some = refl

pub returns-in_err-input-clause-untouched : goal.returns-in_err-input-clause-untouched
returns-in_err-input-clause-untouched g c honest some = absurd (some_none _ some (c.in_ok-cell.ensures.empty honest))

pub returns-in_err-text-clause-untouched : goal.returns-in_err-text-clause-untouched
returns-in_err-text-clause-untouched g c honest some = absurd (some_none _ some (c.in_ok-cell.ensures.empty honest))

pub returns-in_err-save_first-clause-untouched : goal.returns-in_err-save_first-clause-untouched
returns-in_err-save_first-clause-untouched g c honest some = absurd (some_none _ some (c.in_ok-cell.ensures.empty honest))

pub returns-clause-untouched : goal.returns-clause-untouched
returns-clause-untouched g c honest some = absurd (some_none _ some (c.in_ok-cell.ensures.empty honest))
