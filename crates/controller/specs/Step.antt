-- One step, of a controller or of a shop.
use Rattle.std.specs.Prelude.{◌≡◌, ℕ, List, Option, Some, None, Result, Ok, Err, IfOk, IfErr}
use Rattle.std.specs.Prelude.{OnErr}
use Rattle.std.specs.Option.{option_map, option_map_or}
use Rattle.ticket_items.specs.Refusal.{number_of}
use Rattle.ticket_items.specs.declared.refusal.Refusal.{Refusal}
use Rattle.ticket_items.specs.declared.refusal.Refusal.TheVariants.{Memory}
use Rattle.controller.specs.declared.done.Done.{Done}
use Rattle.controller.specs.declared.message.Message.{Message}
use Rattle.controller.specs.declared.outcome.Outcome.{Outcome}
use Rattle.controller.specs.declared.queue_status.QueueStatus.{QueueStatus}
use Rattle.world_items.specs.declared.reply.Reply.{Reply}
use Rattle.controller.specs.declared.taken.Taken.{Taken}
use Rattle.controller.specs.Reply.{answer_to}
pub use Rattle.plain_shop.specs.Step.{Step, refused_step, unless_refused, with_message, with_state}

-- ---- a message

-- what comes of a message that isn't refused: what it is taken as, what a command is told of its
-- queue entry, and the state that it leads to
pub record Taking (S : Type 0) : Type 0 where
  pub reply : Reply
  pub response : Result QueueStatus ℕ
  pub next : S

-- the step of a controller of a name on a message at a time: what comes of it, or the refusal,
-- which changes nothing. A command is answered, refused or not, and an answer isn't
abbrev pub message_step : {S : Type 0} → List ℕ → Message → ℕ → Option Refusal → S → Taking S
    → Step S Message
message_step name m at None w t =
    record { reply = Ok t.reply; sent = answer_to name m at t.response; next = t.next }
message_step name m at (Some e) w t =
    record { reply = Err e; sent = answer_to name m at (Err (number_of e)); next = w }

-- ---- as code tells of it

-- the step of an order that was done so, and of a message that came out so
abbrev pub done_step : {S : Type 0} → Done → S → Step S Message
done_step done next = record { reply = Ok done.reply; sent = done.message; next = next }

abbrev pub outcome_step : {S : Type 0} → Outcome → S → Step S Message
outcome_step outcome next =
    record { reply = outcome.reply; sent = outcome.answer; next = next }

-- what is replied to a message that is taken so, or refused, and what its command is told
abbrev pub reply_of : Result Taken Refusal → Result Reply Refusal
reply_of (Ok t) = Ok t.reply
reply_of (Err e) = Err e

abbrev pub response_of : Result Taken Refusal → Result QueueStatus ℕ
response_of (Ok t) = t.response
response_of (Err e) = Err (number_of e)

-- an order makes a step of a state: it is done as that says, or refused as that is, or else memory
-- runs out; and what isn't done changes nothing
pub record Makes {S : Type 0} (step : Step S Message) (old : S) (result : Result Done Refusal)
    (new : S) : Type 0 where
  pub ok : IfOk result (λ done. done_step done new ≡ step)
  pub err : OnErr result (new ≡ old)
  pub refused : IfErr step.reply (λ e. result ≡ Err e)
  pub memory : IfOk step.reply (λ _. IfErr result (λ e. e ≡ Memory))
