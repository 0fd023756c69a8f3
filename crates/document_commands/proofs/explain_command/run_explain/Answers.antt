use Rattle.std.proofs.Common.{◌≡◌, ℕ, List, false, IfErr, IfOk, Err, Ok, Result, Some, inl, inr, subst}
use Rattle.ticket_items.specs.declared.refusal.Refusal.TheVariants.{Memory}
use Rattle.streams.specs.Ends.{GivesOut, GivesUp}
use Rattle.streams.specs.Streams.{Traffic, traffic}
use Rattle.streams.specs.declared.command.Output.{Output}
use Rattle.streams.specs.declared.fault.Fault.{Fault}
use Rattle.streams.specs.declared.fault.Fault.TheVariants.{Input}
use Rattle.streams.specs.declared.refused.Refused.TheVariants.{Core}
use Rattle.document_commands.specs.ExplainCommand.{EndsRow}
use Rattle.document_commands.proofs.explain_command.run_explain.Goals as goal

-- the text is given out, or memory ran out
text_ends : (made : Result Output Fault) (text : List ℕ) (output told : Traffic) (status : ℕ) → IfOk made (λ o. (o.text.items ≡ text) × (o.refused ≡ false)) → IfErr made (λ fault. fault ≡ Input (Core Memory))
    → IfOk made (λ o. GivesOut o.text.items o.refused output told status) → IfErr made (λ fault. GivesUp fault output told status) → EndsRow (Some text) output told status
text_ends (Ok o) text output told status is memory done up =
    inl (subst (λ items. GivesOut items false output told status) is.0 (subst (λ refused. GivesOut o.text.items refused output told status) is.1 done))
text_ends (Err fault) text output told status is memory done up = inr (subst (λ why. GivesUp why output told status) memory up)

pub returns-in-Some : goal.returns-in-Some
returns-in-Some g c =
    subst (λ text. EndsRow text (traffic g.W.Write.contents c.args.writer.now c.finish.new.writer) (traffic g.F.Write.contents c.args.faults.now c.finish.new.faults) c.finish.result) c.in-Some.ensures
    (text_ends c.text_output.result c.in-Some.text.now _ _ _ c.text_output.ensures.text c.text_output.ensures.memory c.finish.ensures.done c.finish.ensures.gives_up)
