use Rattle.std.proofs.Common.{List, ℕ, inl, inr, subst, sym}
use Rattle.cells.specs.Kept.{IsStepped}
use Rattle.stored_state.specs.AnyStep.{IsNoOrder}
use Rattle.stored_state.specs.Opened.{controller_in}
use Rattle.stored_state.specs.declared.any_kept.AnyKept.{AnyKept}
use Rattle.stored_state.specs.declared.order_bytes.OrderBytes.{OrderBytes}
use Rattle.cell_commands.specs.Faults.{DoesNoneOf, IsUnstepped}
use Rattle.cell_commands.specs.Steps.{MakesOrder}
use Rattle.cell_commands.proofs.Giving.{ordered_gives}
use Rattle.cell_commands.proofs.Making.{err_told}
use Rattle.cell_commands.proofs.Refusing.{fault_undone, memory_undone}
use Rattle.cell_commands.proofs.ordering.order_given.Goals as goal

pub returns-in_err-stepped-clause-refused : goal.returns-in_err-stepped-clause-refused
returns-in_err-stepped-clause-refused g c =
    err_told _ (DoesNoneOf IsNoOrder c.args.input.now) c.from_residual.result c.from_residual.ensures.1
    (λ e is. inl (subst IsUnstepped (sym is) c.in_err-stepped.ensures.refused))

pub returns-in_err-given-clause-refused : goal.returns-in_err-given-clause-refused
returns-in_err-given-clause-refused g c =
    let made = c.in_ok-stepped.ensures.made in
    let none = subst (MakesOrder {K = List ℕ} c.args.at c.args.input.now made.0 made.1.0) c.in_err-given.was made.1.1 in
    err_told _ (DoesNoneOf IsNoOrder c.args.input.now) c.from_residual-in_err-given.result c.from_residual-in_err-given.ensures.1
    (λ e is. fault_undone IsNoOrder c.args.input.now made.0 _ e is none.1)

pub returns-in_err-notes-clause-refused : goal.returns-in_err-notes-clause-refused
returns-in_err-notes-clause-refused g c =
    err_told _ (DoesNoneOf IsNoOrder c.args.input.now) c.from_residual-in_err-notes.result c.from_residual-in_err-notes.ensures.1
    (λ e is. memory_undone IsNoOrder c.args.input.now e is)

pub returns-in_err-notes-clause-unsaved : goal.returns-in_err-notes-clause-unsaved
returns-in_err-notes-clause-unsaved g c =
    err_told _ _ c.from_residual-in_err-notes.result c.from_residual-in_err-notes.ensures.1 (λ e is honest. inr is)

pub returns-clause-ok : goal.returns-clause-ok
returns-clause-ok g c =
    let made = c.in_ok-stepped.ensures.made in
    let given : OrderBytes × AnyKept (List ℕ) = (c.in_ok-given.given, c.in_ok-given.opened) in
    record {
      after = controller_in c.in_ok-given.opened;
      gives = ordered_gives g.C.Cell.is_honest (g.C.Cell.view c.args.keep.now.cell).chain (g.C.Cell.view c.step_in_cell.new.keep.cell).chain c.args.at c.args.input.now given
          (made.0, (made.1.0, subst (MakesOrder {K = List ℕ} c.args.at c.args.input.now made.0 made.1.0) c.in_ok-given.was made.1.1))
          (λ honest. subst (IsStepped (MakesOrder {K = List ℕ} c.args.at c.args.input.now) (g.C.Cell.view c.args.keep.now.cell).chain (g.C.Cell.view c.step_in_cell.new.keep.cell).chain) c.in_ok-given.was (c.in_ok-stepped.ensures.stepped honest));
      noted = c.in_ok-notes.ensures;
    }

pub returns-clause-journal : goal.returns-clause-journal
returns-clause-journal g c wanted =
    let made = c.in_ok-stepped.ensures.made in
    let given : OrderBytes × AnyKept (List ℕ) = (c.in_ok-given.given, c.in_ok-given.opened) in
    record {
      after = controller_in c.in_ok-given.opened;
      gives = ordered_gives g.C.Cell.is_honest (g.C.Cell.view c.args.keep.now.cell).chain (g.C.Cell.view c.step_in_cell.new.keep.cell).chain c.args.at c.args.input.now given
          (made.0, (made.1.0, subst (MakesOrder {K = List ℕ} c.args.at c.args.input.now made.0 made.1.0) c.in_ok-given.was made.1.1))
          (λ honest. subst (IsStepped (MakesOrder {K = List ℕ} c.args.at c.args.input.now) (g.C.Cell.view c.args.keep.now.cell).chain (g.C.Cell.view c.step_in_cell.new.keep.cell).chain) c.in_ok-given.was (c.in_ok-stepped.ensures.stepped honest));
      lines = c.journal_order.ensures wanted;
    }

pub returns-in_err-stepped-clause-rises : goal.returns-in_err-stepped-clause-rises
returns-in_err-stepped-clause-rises g c = c.step_in_cell.ensures.rises

pub returns-in_err-given-clause-rises : goal.returns-in_err-given-clause-rises
returns-in_err-given-clause-rises g c = c.step_in_cell.ensures.rises

pub returns-in_err-notes-clause-rises : goal.returns-in_err-notes-clause-rises
returns-in_err-notes-clause-rises g c = c.step_in_cell.ensures.rises

pub returns-clause-rises : goal.returns-clause-rises
returns-clause-rises g c = c.step_in_cell.ensures.rises
