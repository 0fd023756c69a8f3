use Rattle.std.proofs.Common.{◌≡◌, ◌∙◌, ◌⊎◌, inl, inr, ap, sym, subst, refl, Option, None, Some}
use Rattle.std.proofs.Common.{Result, Err, IfErr, IfNone, IfSome}
use Rattle.std.specs.Prelude.{⊤}
use Rattle.std.specs.Result.{result_err}
use Rattle.ticket_items.specs.declared.refusal.Refusal.{Refusal}
use Rattle.ticket_items.specs.declared.refusal.Refusal.TheVariants.{Memory}
use Rattle.ticket_rows.specs.Edit.{refusal_of}
use Rattle.document_commands.proofs.edit_command.run.apply_edit.Goals as goal

-- a refusal is the one that there is a reason for, or memory ran out
refused_so : (o : Option Refusal) (result : Result ⊤ Refusal) (e : Refusal) → result ≡ Err e → IfSome o (λ r. result ≡ Err r) → IfNone o (IfErr result (λ r. r ≡ Memory))
    → (Some e ≡ o) ⊎ ((Some e ≡ Some Memory) × (o ≡ None))
refused_so None result e is refused memory = inr (ap Some (subst (λ (x : Result ⊤ Refusal). IfErr x (λ r. r ≡ Memory)) is memory), refl)
refused_so (Some r) result e is refused memory = inl (ap result_err (sym is ∙ refused))

pub returns-in-Err-clause-outcome : goal.returns-in-Err-clause-outcome
returns-in-Err-clause-outcome c =
    refused_so (refusal_of c.args.edit c.args.ticket.now.rows) c.apply.result c.in-Err.refusal c.in-Err.is c.apply.ensures.refused c.apply.ensures.memory
