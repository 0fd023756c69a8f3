use Rattle.std.proofs.Common.{◌≡◌, ◌∙◌, Option, Some, None, ap, refl, sym}
use Rattle.controller.specs.Reply.{answer_to}
use Rattle.controller.specs.Step.{message_step}
use Rattle.worker_core.specs.Messages.{on_body, take_refusal}
use Rattle.worker_core.specs.Worker.{state}
use Rattle.worker_core.proofs.taking.do_take.Goals as goal

none_of : {X : Type 0} (o : Option X) → ((x : X) → o ≡ Some x → ⊥) → o ≡ None
none_of None some = refl
none_of (Some x) some = absurd (some x refl)

pub returns-clause-answer : goal.returns-clause-answer
returns-clause-answer c =
    let w = state c.args.name.now c.args.master.now c.args.entries.now in
    let m = c.args.message in
    let at = c.args.at in
    let free : None ≡ take_refusal m w = sym (none_of c.refusal_of.result c.in_default.not-Some) ∙ c.refusal_of.ensures w.entries c.judge-judged.ensures.refusal in
    c.in_ok-outcome.ensures.answer
    ∙ ap (answer_to w.name m at) (c.judge-judged.ensures.response w.name w.master at)
    ∙ ap (λ o. (message_step w.name m at o w (on_body m.body at w)).sent) free
