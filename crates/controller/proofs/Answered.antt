-- The step of an order, from what the order was answered with and why it is refused, if it is; and
-- that of a message.
use Rattle.std.proofs.Common.{◌≡◌, ◌∙◌, ℕ, List, ap, cond, is_some, Option, Some, None, Result, Ok, Err, IfOk, IfErr, IfNone, IfSome, OnErr, refl, sym, subst}
use Rattle.ticket_items.specs.Refusal.{number_of}
use Rattle.ticket_items.specs.declared.refusal.Refusal.{Refusal}
use Rattle.ticket_items.specs.declared.refusal.Refusal.TheVariants.{Memory}
use Rattle.controller.specs.declared.done.Done.{Done}
use Rattle.controller.specs.declared.message.Message.{Message}
use Rattle.controller.specs.declared.queue_status.QueueStatus.{QueueStatus}
use Rattle.world_items.specs.declared.reply.Reply.{Reply}
use Rattle.controller.specs.Reply.{answer_to}
use Rattle.controller.specs.Step.{Makes, Step, Taking, done_step, message_step, refused_step, unless_refused}

-- ---- an order makes its step

-- one that isn't refused
pub free_makes : {S : Type 0} (why : Option Refusal) (old : S) (step : Step S Message) (result : Result Done Refusal) (new : S)
    → why ≡ None → Makes step old result new → Makes (unless_refused why old step) old result new
free_makes why old step result new free makes = subst (λ o. Makes (unless_refused o old step) old result new) (sym free) makes

if_made : (r : Result Reply Refusal) (P : Type 0) → P → IfOk r (λ _. P)
if_made (Ok reply) P p = p
if_made (Err e) P p = tt

-- one that is answered by why it is refused, if it is
pub told_makes : {S : Type 0} (why : Option Refusal) (old : S) (step : Step S Message) (result : Result Done Refusal) (new : S)
    → IfOk result (λ done. done_step done new ≡ step) → OnErr result (new ≡ old) → IfErr step.reply (λ e. result ≡ Err e)
    → IfSome why (λ e. result ≡ Err e) → IfNone why (IfErr result (λ e. e ≡ Memory))
    → Makes (unless_refused why old step) old result new
told_makes None old step result new ok err done refused_step memory =
    record { ok = ok; err = err; refused = done; memory = if_made step.reply (IfErr result (λ e. e ≡ Memory)) memory }
told_makes (Some e) old step (Ok done) new ok err free refused_step memory = cc
told_makes (Some e) old step (Err r) new ok err free refused_step memory = record { ok = tt; err = err; refused = refused_step; memory = tt }

-- ---- what holds of a step

-- what holds of the refusal of an order, if there is one, holds of what the step replies
pub replies_so : {S : Type 0} (why : Option Refusal) (old : S) (step : Step S Message) (P : Refusal → Type 0)
    → IfErr step.reply P → IfSome why P → IfErr (unless_refused why old step).reply P
replies_so None old step P done p = done
replies_so (Some e) old step P done p = p

-- what is refused changes nothing
pub is_idle : {S : Type 0} (why : Option Refusal) (old : S) (step : Step S Message)
    → IfErr step.reply (λ e. step ≡ refused_step e old)
    → IfErr (unless_refused why old step).reply (λ e. unless_refused why old step ≡ refused_step e old)
is_idle None old step done = done
is_idle (Some e) old step done = refl

-- what holds of a message that a step sends
pub sends_so : {S : Type 0} (why : Option Refusal) (old : S) (step : Step S Message) (P : Message → Type 0)
    → IfSome step.sent P → IfSome (unless_refused why old step).sent P
sends_so None old step P p = p
sends_so (Some e) old step P p = tt

-- ---- a message makes its step

-- the state is as it was where there is a refusal, or else what comes of the message
pub answering_leads : {S : Type 0} (name : List ℕ) (m : Message) (at' : ℕ) (why : Option Refusal) (w : S) (t : Taking S) → cond (is_some why) w t.next ≡ (message_step name m at' why w t).next
answering_leads name m at' None w t = refl
answering_leads name m at' (Some e) w t = refl

-- what isn't refused is answered with what comes of it
pub free_answers : {S : Type 0} (name : List ℕ) (m : Message) (at' : ℕ) (why : Option Refusal) (w : S) (t u : Taking S) → why ≡ None → t ≡ u → message_step name m at' why w t ≡ message_step name m at' None w u
free_answers name m at' why w t u none is = ap (λ o. message_step name m at' o w t) none ∙ ap (message_step name m at' None w) is

-- where what comes of a message changes nothing, nothing is changed
pub answering_stays : {S : Type 0} (name : List ℕ) (m : Message) (at' : ℕ) (why : Option Refusal) (w : S) (t : Taking S) → t.next ≡ w → (message_step name m at' why w t).next ≡ w
answering_stays name m at' None w t same = same
answering_stays name m at' (Some e) w t same = refl

-- what a command is told: the number of the refusal, if there is one, or else this
abbrev pub told_by : Option Refusal → Result QueueStatus ℕ → Result QueueStatus ℕ
told_by None response = response
told_by (Some e) response = Err (number_of e)

pub answering_tells : {S : Type 0} (name : List ℕ) (m : Message) (at' : ℕ) (why : Option Refusal) (w : S) (t : Taking S) → answer_to name m at' (told_by why t.response) ≡ (message_step name m at' why w t).sent
answering_tells name m at' None w t = refl
answering_tells name m at' (Some e) w t = refl
