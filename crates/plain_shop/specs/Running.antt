-- A run as one machine: at each event a step is made and settled, for any kind of state and of
-- message; and a run that is cut off.
use Rattle.std.specs.Prelude.{◌≡◌, ◌⊎◌, ℕ, List, [], ◌∷◌, slice_get, take, Some, Ok, Err}
use Rattle.plain_shop.specs.Settling.{answer_left, answer_without_step, messages_left}
use Rattle.plain_shop.specs.Settling.{state_left}
use Rattle.plain_shop.specs.Step.{StepOrWord}
use Rattle.world_items.specs.Word.{word_of}
use Rattle.world_items.specs.declared.answer.Answer.{Answer}
use Rattle.world_items.specs.declared.event.Event.{Event}
use Rattle.world_items.specs.declared.stop.Stop.{Stop}
use Rattle.world_items.specs.declared.stop.Stop.TheVariants.{BeforeSave, BeforeSend}
use Rattle.world_items.specs.declared.what.What.{What}

-- what runs: a whole of a state and of the messages that were sent, and the step that is made of
-- what happens, or the word where none is
pub record Machine (W S M : Type 0) : Type 0 where
  pub inner : W → S
  pub sent : W → List M
  pub made : S → List M → W
  pub step_of : What → ℕ → W → StepOrWord S M

-- ---- one event

-- what is answered
abbrev pub next_answer : {W S M : Type 0} → Machine W S M → Stop → W → StepOrWord S M → Answer
next_answer m stop w (Ok moved) = answer_left stop (m.sent w) (word_of moved.reply) moved.sent
next_answer m stop w (Err word) = answer_without_step word

-- what is there then
abbrev pub next_state : {W S M : Type 0} → Machine W S M → Stop → W → StepOrWord S M → W
next_state m stop w (Ok moved) =
    m.made (state_left stop (m.inner w) moved.next)
    (messages_left stop (m.sent w) moved.sent)
next_state m stop w (Err word) = w

-- what an event is answered with, and what is there after it
abbrev pub answer_to : {W S M : Type 0} → Machine W S M → Event → W → Answer
answer_to m e w = next_answer m e.stop w (m.step_of e.what e.at w)

abbrev pub after : {W S M : Type 0} → Machine W S M → Event → W → W
after m e w = next_state m e.stop w (m.step_of e.what e.at w)

-- ---- a list of events

-- what each of the events is answered with in turn, and what is there after them all
abbrev pub answers_to : {W S M : Type 0} → Machine W S M → List Event → W → List Answer
answers_to m [] w = []
answers_to m (e ∷ events) w = answer_to m e w ∷ answers_to m events (after m e w)

abbrev pub after_all : {W S M : Type 0} → Machine W S M → List Event → W → W
after_all m [] w = w
after_all m (e ∷ events) w = after_all m events (after m e w)

-- ---- events that are cut off

-- an event in which the controller stops so
abbrev pub stopping : Stop → Event → Event
stopping stop e = record e { stop = stop }

-- it isn't known how far an event came: its controller stopped before its state was stored, or
-- before its message was sent
abbrev pub IsStopped : {W S M : Type 0} → Machine W S M → Event → W → W → Type 0
IsStopped m e old new =
    (new ≡ after m (stopping BeforeSave e) old) ⊎ (new ≡ after m (stopping BeforeSend e) old)

-- events in turn came as far as one, and it isn't known how far that came
pub record IsCutOff {W S M : Type 0} (m : Machine W S M) (events : List Event) (old new : W)
    : Type 0 where
  pub place : ℕ
  pub event : Event
  pub there : slice_get events place ≡ Some event
  pub stopped : IsStopped m event (after_all m (take place events) old) new
