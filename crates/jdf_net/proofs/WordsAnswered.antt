-- Words that stand for no call.
use Rattle.std.proofs.Common.{◌≡◌, ℕ, IfErr, IfOk, Result, Ok, Err, false, true, inl, inr, subst}
use Rattle.ticket_items.specs.declared.refusal.Refusal.TheVariants.{Memory}
use Rattle.streams.specs.Ends.{GivesOut, GivesUp}
use Rattle.streams.specs.Streams.{Traffic}
use Rattle.streams.specs.declared.fault.Fault.{Fault}
use Rattle.streams.specs.declared.fault.Fault.TheVariants.{Input}
use Rattle.streams.specs.declared.command.Output.{Output}
use Rattle.streams.specs.declared.refused.Refused.TheVariants.{Core}
use Rattle.jdf_net.specs.Words.{EndsAnswer}

-- what they ask for is given out, or there is no memory for it
pub gives_answer : (made : Result Output Fault) (output told : Traffic) (status : ℕ) → IfOk made (λ o. o.refused ≡ false) → IfErr made (λ fault. fault ≡ Input (Core Memory))
    → IfOk made (λ o. GivesOut o.text.items o.refused output told status) → IfErr made (λ fault. GivesUp fault output told status) → EndsAnswer true output told status
gives_answer (Ok o) output told status accepted memory gives up =
    inl (o.text.items, subst (λ refused. GivesOut o.text.items refused output told status) accepted gives)
gives_answer (Err fault) output told status accepted memory gives up =
    inr (subst (λ it. GivesUp it output told status) memory up)
