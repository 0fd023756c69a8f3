use Rattle.std.proofs.Common.{subst, sym}
use Rattle.cell_commands.specs.Faults.{IsUnseen}
use Rattle.cell_commands.proofs.Making.{err_told}
use Rattle.cell_commands.proofs.Refusing.{fault_unseen, unloaded_unseen}
use Rattle.cells.proofs.Keeping.{part_of}
use Rattle.cell_commands.proofs.look.look.Goals as goal

pub returns-in_err-held-clause-refused : goal.returns-in_err-held-clause-refused
returns-in_err-held-clause-refused g c =
    err_told _ IsUnseen c.from_residual.result c.from_residual.ensures.1 (λ e is. subst IsUnseen (sym is) (unloaded_unseen c.in_err-held.field-0.0 c.in_err-held.ensures.refused))

pub returns-in_err-opened-clause-refused : goal.returns-in_err-opened-clause-refused
returns-in_err-opened-clause-refused g c =
    err_told _ IsUnseen c.from_residual-in_err-opened.result c.from_residual-in_err-opened.ensures.1 (λ e is. fault_unseen c.new.result c.in_err-opened.field-0.0 e is c.in_err-opened.ensures.refused)

pub returns-clause-grows : goal.returns-clause-grows
returns-clause-grows g c honest = part_of _ _ _ (c.load.ensures.sends honest)

pub returns-clause-there : goal.returns-clause-there
returns-clause-there g c honest = c.in_ok-held.ensures.there honest
