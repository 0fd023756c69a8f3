use Rattle.std.proofs.Common.{List, ℕ, inl, refl, subst, sym}
use Rattle.cells.specs.Kept.{IsStepped}
use Rattle.jmf_message.specs.Decoded.{IsRefusalOf as IsUndecoded}
use Rattle.stored_state.specs.Opened.{controller_in}
use Rattle.stored_state.specs.declared.any_kept.AnyKept.{AnyKept}
use Rattle.stored_state.specs.declared.taken_bytes.TakenBytes.{TakenBytes}
use Rattle.cell_commands.specs.Faults.{DoesNoneOf, IsUnstepped}
use Rattle.cell_commands.specs.Steps.{MakesTaking}
use Rattle.cell_commands.proofs.Giving.{taken_gives}
use Rattle.cell_commands.proofs.Making.{err_told}
use Rattle.cell_commands.proofs.Refusing.{fault_undone}
use Rattle.cell_commands.proofs.taking.take_given.Goals as goal

pub returns-in_err-stepped-clause-refused : goal.returns-in_err-stepped-clause-refused
returns-in_err-stepped-clause-refused g c =
    err_told _ (DoesNoneOf (λ bytes _. IsUndecoded bytes) c.args.bytes.now) c.from_residual.result c.from_residual.ensures.1
    (λ e is. inl (subst IsUnstepped (sym is) c.in_err-stepped.ensures.refused))

pub returns-in_err-given-clause-refused : goal.returns-in_err-given-clause-refused
returns-in_err-given-clause-refused g c =
    let made = c.in_ok-stepped.ensures.made in
    let none = subst (MakesTaking {K = List ℕ} c.args.at c.args.bytes.now made.0 made.1.0) c.in_err-given.was made.1.1 in
    err_told _ (DoesNoneOf (λ bytes _. IsUndecoded bytes) c.args.bytes.now) c.from_residual-in_err-given.result c.from_residual-in_err-given.ensures.1
    (λ e is. fault_undone (λ bytes _. IsUndecoded bytes) c.args.bytes.now made.0 _ e is none.1)

pub returns-clause-ok : goal.returns-clause-ok
returns-clause-ok g c =
    let made = c.in_ok-stepped.ensures.made in
    let given : TakenBytes × AnyKept (List ℕ) = (c.in_ok-given.given, c.in_ok-given.opened) in
    record {
      after = controller_in c.in_ok-given.opened;
      gives = taken_gives g.C.Cell.is_honest (g.C.Cell.view c.args.keep.now.cell).chain (g.C.Cell.view c.step_in_cell.new.keep.cell).chain c.args.at c.args.bytes.now given
          (made.0, (made.1.0, subst (MakesTaking {K = List ℕ} c.args.at c.args.bytes.now made.0 made.1.0) c.in_ok-given.was made.1.1))
          (λ honest. subst (IsStepped (MakesTaking {K = List ℕ} c.args.at c.args.bytes.now) (g.C.Cell.view c.args.keep.now.cell).chain (g.C.Cell.view c.step_in_cell.new.keep.cell).chain) c.in_ok-given.was (c.in_ok-stepped.ensures.stepped honest));
      noted = refl;
    }

pub returns-clause-journal : goal.returns-clause-journal
returns-clause-journal g c wanted =
    let made = c.in_ok-stepped.ensures.made in
    let given : TakenBytes × AnyKept (List ℕ) = (c.in_ok-given.given, c.in_ok-given.opened) in
    record {
      after = controller_in c.in_ok-given.opened;
      gives = taken_gives g.C.Cell.is_honest (g.C.Cell.view c.args.keep.now.cell).chain (g.C.Cell.view c.step_in_cell.new.keep.cell).chain c.args.at c.args.bytes.now given
          (made.0, (made.1.0, subst (MakesTaking {K = List ℕ} c.args.at c.args.bytes.now made.0 made.1.0) c.in_ok-given.was made.1.1))
          (λ honest. subst (IsStepped (MakesTaking {K = List ℕ} c.args.at c.args.bytes.now) (g.C.Cell.view c.args.keep.now.cell).chain (g.C.Cell.view c.step_in_cell.new.keep.cell).chain) c.in_ok-given.was (c.in_ok-stepped.ensures.stepped honest));
      lines = c.journal_message.ensures wanted;
    }

pub returns-in_err-stepped-clause-rises : goal.returns-in_err-stepped-clause-rises
returns-in_err-stepped-clause-rises g c = c.step_in_cell.ensures.rises

pub returns-in_err-given-clause-rises : goal.returns-in_err-given-clause-rises
returns-in_err-given-clause-rises g c = c.step_in_cell.ensures.rises

pub returns-clause-rises : goal.returns-clause-rises
returns-clause-rises g c = c.step_in_cell.ensures.rises
