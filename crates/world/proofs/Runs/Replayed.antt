-- What is answered and shown after events, by the contracts of the world's steps, is the replay.
use Rattle.std.proofs.Common.{◌≡◌, ◌∙◌, ℕ, ◌<◌, List, length, take, Result, Ok, Err, IfOk, OnOk, sym, ap}
use Rattle.world.proofs.Runs.Events.{event_is_replayed, events_are_replayed}
use Rattle.world.specs.Happening as world
use Rattle.plain_shop.specs.Replay as replay
use Rattle.world.specs.Showing.{shows}
use Rattle.world.specs.State.{IsConsistent, State}
use Rattle.world_items.specs.declared.answer.Answer.{Answer}
use Rattle.world_items.specs.declared.event.Event.{Event}
use Rattle.world_items.specs.declared.what.What.{What}

-- ---- one event

pub said_so : {E : Type 0} (result : Result Answer E) (e : Event) (what : What) (w : State) → IsConsistent w → e.what ≡ what → IfOk result (λ a. a ≡ world.next_answer e.stop w (world.step_of what e.at w)) → IfOk result (λ a. a ≡ replay.answer_to e (shows w))
said_so (Ok a) e what w kept is said = said ∙ ap (λ x. world.next_answer e.stop w (world.step_of x e.at w)) (sym is) ∙ (event_is_replayed w e kept).0
said_so (Err f) e what w kept is said = tt

pub shown_so : {E : Type 0} (result : Result Answer E) (e : Event) (what : What) (w new : State) → IsConsistent w → e.what ≡ what → OnOk result (new ≡ world.next_state e.stop w (world.step_of what e.at w)) → OnOk result (shows new ≡ replay.after e (shows w))
shown_so (Ok a) e what w new kept is state = ap shows (state ∙ ap (λ x. world.next_state e.stop w (world.step_of x e.at w)) (sym is)) ∙ (event_is_replayed w e kept).1
shown_so (Err f) e what w new kept is state = tt

-- ---- events in turn

pub all_said : (events : List Event) (w : State) (answers : List Answer) → IsConsistent w → answers ≡ world.answers_to events w → answers ≡ replay.answers_to events (shows w)
all_said events w answers kept is = is ∙ (events_are_replayed w events kept).0

pub all_shown : (events : List Event) (w new : State) → IsConsistent w → new ≡ world.after_all events w → shows new ≡ replay.after_all events (shows w)
all_shown events w new kept is = ap shows is ∙ (events_are_replayed w events kept).1

pub cut_before : (events : List Event) (w new : State) → IsConsistent w → ((k : ℕ) × (k < length events) × (new ≡ world.after_all (take k events) w)) → (k : ℕ) × (k < length events) × (shows new ≡ replay.after_all (take k events) (shows w))
cut_before events w new kept cut = (cut.0, cut.1, all_shown (take cut.0 events) w new kept cut.2)
