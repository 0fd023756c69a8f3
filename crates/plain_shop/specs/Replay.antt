-- The replay of events in a shop: what is answered, what the shop is then, and what was sent.
use Rattle.std.specs.Prelude.{ℕ, ◌||◌, List, [], if◌then◌else◌, Ok, Err}
use Rattle.std.specs.Option.{option_map_or}
use Rattle.std.specs.Str.{bytes_eq}
use Rattle.ticket_items.specs.Ids.{mem}
use Rattle.ticket_items.specs.declared.refusal.Refusal.TheVariants.{UnknownWorker}
use Rattle.ticket_rows.specs.Ticket.{Job}
use Rattle.world_items.specs.declared.worker_order.Order as worker_order
use Rattle.plain_shop.specs.Running as running
use Rattle.plain_shop.specs.Running.{Machine}
use Rattle.plain_shop.specs.Shop.{PlainState}
use Rattle.plain_shop.specs.Acts as acts
use Rattle.plain_shop.specs.Steps.{Tag, master_does, on_message, worker_does}
use Rattle.plain_shop.specs.Settling.{message_at}
use Rattle.plain_shop.specs.Step.{StepOrWord}
use Rattle.world_items.specs.declared.answer.Answer.{Answer}
use Rattle.world_items.specs.declared.event.Event.{Event}
use Rattle.world_items.specs.declared.stop.Stop.{Stop}
use Rattle.world_items.specs.declared.what.What.{What}
use Rattle.world_items.specs.declared.what.What.TheVariants.{MasterOrder, WorkerOrder}
use Rattle.world_items.specs.declared.what.What.TheVariants.{Deliver, Restart}
use Rattle.world_items.specs.declared.word.Word.{Word}
use Rattle.world_items.specs.declared.word.Word.TheVariants.{NoMessage, Refused, Restarted}

-- a shop, and the tags of the messages that were sent, in the order in which they went out
pub record TaggedShop : Type 0 where
  pub shop : PlainState
  pub tags : List Tag

-- nothing was spawned, and nothing was sent
abbrev pub opening : List ℕ → List (List ℕ) → Job → TaggedShop
opening name workers ticket = record { shop = acts.opening name workers ticket; tags = [] }

-- ---- one step

-- the one of the worker of a name, if there is one
abbrev pub worker_step : List ℕ → worker_order.Order → ℕ → PlainState → StepOrWord PlainState Tag
worker_step name o at p =
    if mem name p.workers then Ok (worker_does name o at p) else Err (Refused UnknownWorker)

-- that on the message of a number, if there is one
abbrev pub delivery_step : ℕ → ℕ → TaggedShop → StepOrWord PlainState Tag
delivery_step k at p = option_map_or (on_message at p.shop) (message_at p.tags k) (Err NoMessage)

-- a restart is none
abbrev pub restart_word : List ℕ → PlainState → Word
restart_word name p =
    if bytes_eq name p.master || mem name p.workers then Restarted else Refused UnknownWorker

-- that of what happens
abbrev pub step_of : What → ℕ → TaggedShop → StepOrWord PlainState Tag
step_of (MasterOrder o) at p = Ok (master_does o at p.shop)
step_of (WorkerOrder name o) at p = worker_step name o at p.shop
step_of (Deliver k) at p = delivery_step k at p
step_of (Restart name) at p = Err (restart_word name p.shop)

-- ---- as they run

-- the shop with its tags, as a machine
abbrev pub machine : Machine TaggedShop PlainState Tag
machine =
    record {
      inner = λ p. p.shop;
      sent = λ p. p.tags;
      made = λ p tags. record { shop = p; tags = tags };
      step_of = step_of;
    }

-- what is answered to a step, and what is shown then
abbrev pub next_answer : Stop → TaggedShop → StepOrWord PlainState Tag → Answer
next_answer = running.next_answer machine

abbrev pub next_state : Stop → TaggedShop → StepOrWord PlainState Tag → TaggedShop
next_state = running.next_state machine

-- the same of an event
abbrev pub answer_to : Event → TaggedShop → Answer
answer_to = running.answer_to machine

abbrev pub after : Event → TaggedShop → TaggedShop
after = running.after machine

-- and of events in turn
abbrev pub answers_to : List Event → TaggedShop → List Answer
answers_to = running.answers_to machine

abbrev pub after_all : List Event → TaggedShop → TaggedShop
after_all = running.after_all machine
