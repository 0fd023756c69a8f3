-- One step, of a controller or of a shop; and what comes of an event: a step, or a word where none
-- is made.
use Rattle.std.specs.Prelude.{Option, None, Result, Err}
use Rattle.std.specs.Option.{option_map, option_map_or}
use Rattle.ticket_items.specs.declared.refusal.Refusal.{Refusal}
use Rattle.world_items.specs.declared.reply.Reply.{Reply}
use Rattle.world_items.specs.declared.word.Word.{Word}

-- what is replied, what is sent, and the state that it leads to
pub record Step (S M : Type 0) : Type 0 where
  pub reply : Result Reply Refusal
  pub sent : Option M
  pub next : S

-- what is refused sends nothing, and changes nothing
abbrev pub refused_step : {S M : Type 0} → Refusal → S → Step S M
refused_step e s = record { reply = Err e; sent = None; next = s }

-- the refusal, if there is one, or else the step
abbrev pub unless_refused : {S M : Type 0} → Option Refusal → S → Step S M → Step S M
unless_refused why s step = option_map_or (λ e. refused_step e s) why step

-- the step, with what is made of its message, and with what is made of its state
abbrev pub with_message : {S M N : Type 0} → (M → N) → Step S M → Step S N
with_message f step =
    record { reply = step.reply; sent = option_map f step.sent; next = step.next }

abbrev pub with_state : {S T M : Type 0} → (S → T) → Step S M → Step T M
with_state f step = record { reply = step.reply; sent = step.sent; next = f step.next }

-- a step, or the word where none is made
abbrev pub StepOrWord : Type 0 → Type 0 → Type 0
StepOrWord S M = Result (Step S M) Word
