use Rattle.std.proofs.Common.{◌≡◌, ◌⊎◌, inr, subst, sym}
use Rattle.cell_commands.specs.Faults.{IsUnloaded}
use Rattle.cell_commands.specs.declared.cell_fault.CellFault.TheVariants.{Taken}
use Rattle.cell_commands.proofs.Making.{err_told}
use Rattle.cells.proofs.Keeping.{part_of}
use Rattle.cell_commands.proofs.Revisions.{none_before, sends_rise}
use Rattle.cell_commands.proofs.beginning.empty_cell.Goals as goal

pub returns-in_err-revision-clause-refused : goal.returns-in_err-revision-clause-refused
returns-in_err-revision-clause-refused g c =
    err_told _ (λ e. (e ≡ Taken) ⊎ IsUnloaded e) c.from_residual.result c.from_residual.ensures.1
    (λ e is. inr (subst IsUnloaded (sym is) c.in_err-revision.ensures.refused))

pub returns-clause-grows : goal.returns-clause-grows
returns-clause-grows g c honest = part_of _ _ _ (c.in_ok-revision.ensures.goes honest)

pub returns-clause-empty : goal.returns-clause-empty
returns-clause-empty g c honest =
    none_before _ _ c.in_ok-revision.revision (sends_rise _ _ _ (c.in_ok-revision.ensures.goes honest)) (c.in_ok-revision.ensures.value honest) c.if-revision-gt0.false
