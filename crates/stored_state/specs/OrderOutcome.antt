-- What is told of an order.
use Rattle.std.specs.Prelude.{None, Result, Ok, Err}
use Rattle.ticket_items.specs.declared.refusal.Refusal.{Refusal}
use Rattle.controller.specs.declared.done.Done.{Done}
use Rattle.controller.specs.declared.outcome.Outcome.{Outcome}

-- what is told of an order that was answered so
abbrev pub outcome_of_order : Result Done Refusal → Outcome
outcome_of_order (Ok done) = record { reply = Ok done.reply; answer = done.message }
outcome_of_order (Err e) = record { reply = Err e; answer = None }
