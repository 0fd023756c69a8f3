use Rattle.std.proofs.Common.{◌≡◌, ◌⊎◌, inr, subst, sym}
use Rattle.ticket_items.specs.declared.refusal.Refusal.TheVariants.{Memory}
use Rattle.stored_state.specs.Opened.{kept_of}
use Rattle.stored_state.specs.declared.addressee.Addressee.TheVariants.{Any}
use Rattle.streams.specs.declared.refused.Refused.TheVariants.{Core}
use Rattle.streams.specs.declared.fault.Fault.{Fault}
use Rattle.streams.specs.declared.fault.Fault.TheVariants.{Input}
use Rattle.file_commands.specs.Beginning.{IsNoBeginning}
use Rattle.cell_commands.proofs.Begun as begun
use Rattle.cell_commands.proofs.Making.{err_told}
use Rattle.cell_commands.proofs.beginning.text_begun.Goals as goal

pub returns-in_err-opened-clause-refused : goal.returns-in_err-opened-clause-refused
returns-in_err-opened-clause-refused c =
    err_told _ (λ fault. IsNoBeginning Any c.args.input.now fault ⊎ (fault ≡ Input (Core Memory))) c.from_residual.result c.from_residual.ensures.1
    (λ fault is. subst (λ (f : Fault). IsNoBeginning Any c.args.input.now f ⊎ (f ≡ Input (Core Memory))) (sym is)
    (begun.none_begun c.new-keep.result c.args.input.now c.in_err-opened.field-0.0 c.in_err-opened.ensures.refused))

pub returns-in_err-text_in-clause-refused : goal.returns-in_err-text_in-clause-refused
returns-in_err-text_in-clause-refused c =
    err_told _ (λ fault. IsNoBeginning Any c.args.input.now fault ⊎ (fault ≡ Input (Core Memory))) c.from_residual-in_err-text_in.result c.from_residual-in_err-text_in.ensures.1
    (λ fault is. inr is)

pub returns-clause-ok : goal.returns-clause-ok
returns-clause-ok c = begun.text_begun c.new-keep.result c.args.input.now _ (kept_of c.in_ok-opened.opened) c.in_ok-opened.ensures.ok c.in_ok-text_in.ensures
