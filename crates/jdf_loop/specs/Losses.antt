-- Which messages `loop` loses, and what comes of events in turn then.
use Rattle.std.specs.Prelude.{ℕ, Bool, false, List, [], ◌∷◌, if◌then◌else◌, length, nat_lt}
use Rattle.std.specs.Option.{option_map_or}
use Rattle.stored_state.specs.Message.{message_text}
use Rattle.world.specs.Happening.{after}
use Rattle.plain_shop.specs.Replay as replay
use Rattle.world.specs.Showing.{shows}
use Rattle.world.specs.State.{State, message_at}
use Rattle.world_items.specs.declared.answer.Answer.{Answer}
use Rattle.world_items.specs.declared.event.Event.{Event}
use Rattle.world_items.specs.declared.what.What.{What}
use Rattle.world_items.specs.declared.what.What.TheVariants.{Deliver}
use Rattle.jdf_loop.specs.declared.event_line.EventLine.{EventLine}
use Rattle.jdf_loop.specs.declared.event_line.EventLine.TheVariants.{Answered, TooLarge}
use Rattle.jdf_loop.specs.declared.losses.TheConstants.{MAX_SENT_BYTES}

-- ---- which are lost

-- a text is too long to be sent
abbrev pub is_too_long : List ℕ → Bool
is_too_long text = nat_lt MAX_SENT_BYTES (length text)

-- what happens is the delivery of a message whose text is
abbrev pub is_lost : What → State → Bool
is_lost (Deliver k) w =
    option_map_or (λ m. is_too_long (message_text m)) (message_at w.messages k) false
is_lost _ w = false

-- ---- one event

-- what is told of it: an answer of one ticket with one table of holders, unless it is lost
abbrev pub line_to : Event → State → EventLine
line_to e w = if is_lost e.what w then TooLarge else Answered (replay.answer_to e (shows w))

-- what is there then: where it is lost, what was
abbrev pub left_by : Event → State → State
left_by e w = if is_lost e.what w then w else after e w

-- ---- events in turn

abbrev pub lines_to : List Event → State → List EventLine
lines_to [] w = []
lines_to (e ∷ events) w = line_to e w ∷ lines_to events (left_by e w)

abbrev pub left_by_all : List Event → State → State
left_by_all [] w = w
left_by_all (e ∷ events) w = left_by_all events (left_by e w)

-- those that aren't lost
abbrev pub kept_events : List Event → State → List Event
kept_events [] w = []
kept_events (e ∷ events) w =
    if is_lost e.what w then kept_events events w else e ∷ kept_events events (after e w)

-- the answers that are told
abbrev pub answers_in : List EventLine → List Answer
answers_in [] = []
answers_in (Answered a ∷ told) = a ∷ answers_in told
answers_in (TooLarge ∷ told) = answers_in told
