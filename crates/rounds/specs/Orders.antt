-- Those who wait for what comes of their orders, and their responses.
use Rattle.std.specs.Prelude.{◌≡◌, ℕ, List, ◌++◌, codes, decimal, Option, Some, None, IfSome}
use Rattle.std.specs.Prelude.{Result, Ok, Err}
use Rattle.std.specs.Option.{option_map_or}
use Rattle.std.specs.Result.{result_ok}
use Rattle.ticket_items.specs.Refusal.{holder_of, name_of, number_of}
use Rattle.ticket_items.specs.SpawnId.{spawn_text}
use Rattle.ticket_items.specs.declared.refusal.Refusal.{Refusal}
use Rattle.controller.specs.Reply.{spawn_of_reply, word_of}
use Rattle.world_items.specs.declared.reply.Reply.{Reply}
use Rattle.streams.specs.declared.refused.Refused.{Refused}
use Rattle.streams.specs.declared.refused.Refused.TheVariants.{Core}
use Rattle.http_message.specs.Texts.{refusal_body, served_text}
use Rattle.http_edge.specs.Exchange.{served_of}
use Rattle.stored_state.specs.declared.taken_bytes.TakenBytes.{TakenBytes}
use Rattle.rounds.specs.Line.{with_response}
use Rattle.rounds.specs.declared.orders.AnsweredOperator.{AnsweredOperator}
use Rattle.rounds.specs.declared.waiting.WaitingClient.{WaitingClient}

-- a word, and the spawn that is told beside it if one is, as JSON
abbrev pub word_body : List ℕ → Option ℕ → List ℕ
word_body word (Some s) =
    codes "{\"Reply\":\"" ++ word ++ codes "\",\"SpawnID\":\"" ++ spawn_text s ++ codes "\"}"
word_body word None = codes "{\"Reply\":\"" ++ word ++ codes "\"}"

-- what tells a refusal, and the spawn that holds what an order would change, as JSON
abbrev pub held_body : List ℕ → ℕ → ℕ → List ℕ
held_body name number s =
    codes "{\"Name\":\"" ++ name ++ codes "\",\"Refused\":" ++ decimal number
    ++ codes ",\"SpawnID\":\"" ++ spawn_text s ++ codes "\"}"

-- what tells why a controller refused an order, as JSON
abbrev pub refused_body : Refusal → List ℕ
refused_body e =
    option_map_or (held_body (name_of e) (number_of e)) (holder_of e) (refusal_body (Core e))

-- what tells what a controller replied to an order, or why it refused that, as JSON
abbrev pub order_body : Result Reply Refusal → List ℕ
order_body (Ok reply) = word_body (word_of reply) (spawn_of_reply reply)
order_body (Err e) = refused_body e

-- what an order of which this came is answered with, or why there is no step
abbrev pub answer_to : Result TakenBytes Refused → Result (Option (List ℕ)) Refused
answer_to (Ok taken) = Ok (Some (order_body taken.reply))
answer_to (Err e) = Err e

-- what the controller replied, if it made the step and took the order
abbrev pub reply_to : Result TakenBytes Refused → Option Reply
reply_to (Ok taken) = result_ok taken.reply
reply_to (Err e) = None

-- who waited has, under the same number, the response to what came of the order, unless memory ran
-- out for that; and what is told is the same
pub record HasReply {S : Type 0} (now : ℕ) (came : Result TakenBytes Refused) (w : WaitingClient S)
    (o : AnsweredOperator S) : Type 0 where
  pub same : o.key ≡ w.key
  pub response : IfSome o.client (λ c. c ≡ with_response (served_text (answer_to came)) now w.asked)
  pub told : o.told ≡ served_of came
  pub reply : o.reply ≡ reply_to came
