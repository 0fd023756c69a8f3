use Rattle.std.proofs.Common.{◌≡◌, ◌∙◌, ℕ, List, Option, Some, None, Result, Ok, Err, IfOk, ap, refl, sym, subst}
use Rattle.ticket_items.specs.Refusal.{number_of}
use Rattle.ticket_items.specs.declared.refusal.Refusal.{Refusal}
use Rattle.controller.specs.Reply.{answer_to}
use Rattle.controller.specs.Step.{Taking, message_step, outcome_step}
use Rattle.controller.specs.declared.message.Message.{Message}
use Rattle.controller.specs.declared.outcome.Outcome.{Outcome}
use Rattle.master_core.specs.Master.{State}
use Rattle.master_core.specs.Messages.{on_body}
use Rattle.master_core.proofs.master.Master.take.Goals as goal

none_of : {X : Type 0} (o : Option X) → ((x : X) → o ≡ Some x → ⊥) → o ≡ None
none_of None some = refl
none_of (Some x) some = absurd (some x refl)

-- what is answered with a refusal makes the step of that
refused : {E : Type 0} (result : Result Outcome E) (name : List ℕ) (m : Message) (at : ℕ) (e : Refusal) (w : State) (t : Taking State)
    → IfOk result (λ o. o.reply ≡ Err e) → IfOk result (λ o. o.answer ≡ answer_to name m at (Err (number_of e))) → IfOk result (λ o. outcome_step o w ≡ message_step name m at (Some e) w t)
refused (Ok o) name m at e w t said sent = λ i. record { reply = said i; sent = sent i; next = w }
refused (Err x) name m at e w t said sent = tt

pub returns-in-Some-clause-ok : goal.returns-in-Some-clause-ok
returns-in-Some-clause-ok c =
    let w = c.args.self.now in
    let m = c.args.message in
    let at = c.args.at in
    let t = on_body m.body at w in
    let e = c.in-Some.refusal in
    subst (λ why. IfOk c.outcome_of.result (λ o. outcome_step o w ≡ message_step w.name m at why w t)) c.in-Some.ensures
    (refused c.outcome_of.result w.name m at e w t c.outcome_of.ensures.reply
    (subst (λ name. IfOk c.outcome_of.result (λ o. o.answer ≡ answer_to name m at (Err (number_of e)))) c.name.ensures c.outcome_of.ensures.answer))

pub returns-clause-ok : goal.returns-clause-ok
returns-clause-ok c =
    let w = c.args.self.now in
    let m = c.args.message in
    let at = c.args.at in
    let t = on_body m.body at w in
    let free = sym (none_of c.refusal_of.result c.in_default.not-Some) ∙ c.refusal_of.ensures in
    let said : c.in_ok-outcome.outcome.reply ≡ Ok t.reply = c.in_ok-outcome.ensures.reply ∙ ap Ok (c.judge-judged.ensures.reply at) in
    let sent : c.in_ok-outcome.outcome.answer ≡ answer_to w.name m at t.response = c.in_ok-outcome.ensures.answer ∙ ap (λ name. answer_to name m at c.judge-judged.result.taken.response) c.name-2.ensures ∙ ap (answer_to w.name m at) (c.judge-judged.ensures.response at) in
    let led = c.in_ok-take_body.ensures.ok in
    subst (λ why. outcome_step c.in_ok-outcome.outcome c.take_body.new.self ≡ message_step w.name m at why w t) free (λ i. record { reply = said i; sent = sent i; next = led i })
