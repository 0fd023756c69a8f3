use Rattle.std.proofs.Common.{◌≡◌, ◌⊎◌, ◌∙◌, List, ℕ, inl, subst, sym}
use Rattle.file_commands.specs.Listing.{ListsOne}
use Rattle.cell_commands.specs.Calls.{is_held, text_held}
use Rattle.cell_commands.specs.Faults.{IsUnseen, out_of_memory}
use Rattle.cell_commands.proofs.Making.{err_told}
use Rattle.cell_commands.proofs.Refusing.{fault_untold, unloaded_unseen}
use Rattle.cell_commands.proofs.look.list_in_cell.Goals as goal

pub returns-in_err-held-clause-refused : goal.returns-in_err-held-clause-refused
returns-in_err-held-clause-refused g c =
    err_told _ (λ e. IsUnseen e ⊎ (e ≡ out_of_memory)) c.from_residual.result c.from_residual.ensures.1
    (λ e is. inl (subst IsUnseen (sym is) (unloaded_unseen c.in_err-held.field-0.0 c.in_err-held.ensures.refused)))

pub returns-in_err-kept_list-clause-refused : goal.returns-in_err-kept_list-clause-refused
returns-in_err-kept_list-clause-refused g c =
    err_told _ (λ e. IsUnseen e ⊎ (e ≡ out_of_memory)) c.from_residual-in_err-kept_list.result c.from_residual-in_err-kept_list.ensures.1
    (λ e is. fault_untold c.new.result c.in_err-kept_list.field-0.0 e is c.in_err-kept_list.ensures.refused)

pub returns-clause-ok : goal.returns-clause-ok
returns-clause-ok g c = (c.new.result, c.in_ok-kept_list.ensures.ok)

pub returns-clause-seen : goal.returns-clause-seen
returns-clause-seen g c honest =
    let noted = c.in_ok-kept_list.field-0 in
    subst (λ (held : List ℕ). ListsOne c.args.asked is_held text_held held noted.output.text.items noted.output.refused noted.notes.items)
    (c.new.ensures ∙ c.in_ok-held.ensures.value honest) c.in_ok-kept_list.ensures.ok
