-- What the lines of a day come to at the controllers of a shop.
use Rattle.std.specs.Prelude.{◌≡◌, ◌⊎◌, ℕ, true, false, List, [], ◌∷◌, map, Option}
use Rattle.std.specs.Prelude.{Some, Result, slice_get, take, ⊤}
use Rattle.std.specs.Option.{option_and_then, option_map}
use Rattle.ticket_items.specs.declared.refusal.Refusal.{Refusal}
use Rattle.controller.specs.declared.message.Message.{Message}
use Rattle.stored_state.specs.Message.{message_text}
use Rattle.streams.specs.declared.command.Output.{Output}
use Rattle.streams.specs.declared.fault.Fault.{Fault}
use Rattle.world.specs.Happening.{after, after_all, answer_to}
use Rattle.world.specs.Showing.{shows}
use Rattle.world.specs.State.{State, message_at}
use Rattle.world_items.specs.Word.{word_of}
use Rattle.world_items.specs.declared.answer.Answer.{Answer}
use Rattle.world_items.specs.declared.event.Event.{Event}
use Rattle.world_items.specs.declared.reply.Reply.{Reply}
use Rattle.world_items.specs.declared.stop.Stop.{Stop}
use Rattle.world_items.specs.declared.stop.Stop.TheVariants.{Run, BeforeSave, BeforeSend}
use Rattle.world_items.specs.declared.what.What.{What}
use Rattle.world_items.specs.declared.word.Word.{Word}
use Rattle.file_commands.specs.Step.{is_refused, step_lines}
use Rattle.shop_day.specs.Files.{shown_of}
use Rattle.shop_day.specs.Lines.{GivesUp, IsFailed, asks_step, event, event_of}
use Rattle.shop_day.specs.declared.line.Call.{Call}
use Rattle.shop_day.specs.declared.line.Call.TheVariants.{Show}
use Rattle.shop_day.specs.declared.line.Line.{Line}
use Rattle.shop_day.specs.declared.outcome.Outcome.{Outcome}
use Rattle.shop_day.specs.declared.outcome.Outcome.TheVariants.{Wrote, GaveUp}

-- a line, what came of it, and the event in the shop that it was
pub record Done : Type 0 where
  pub line : Line
  pub outcome : Outcome
  pub event : Event

abbrev pub events : List Done → List Event
events day = map (λ d. d.event) day

-- what is written, where the event ran to its end; or why nothing is, where its controller stopped
-- before its state was stored, or before its message was sent
abbrev pub IsOutcome : (Output → Type 0) → (Fault → Type 0) → Stop → Outcome → Type 0
IsOutcome Writes IsFault stop (Wrote out) = (stop ≡ Run) × Writes out
IsOutcome Writes IsFault stop (GaveUp fault) =
    ((stop ≡ BeforeSave) ⊎ (stop ≡ BeforeSend)) × IsFault fault

-- ---- what is written

-- the text of the message of a number, if there is one
abbrev pub text_at : List Message → Option ℕ → Option (List ℕ)
text_at messages number = option_map message_text (option_and_then (message_at messages) number)

-- the word tells a reply or a refusal
abbrev pub IsReply : Word → Type 0
IsReply word = (reply : Result Reply Refusal) × (word ≡ word_of reply)

-- what is written of an answer: its reply or its refusal, and the text that goes out
pub record IsWritten (a : Answer) (messages : List Message) (out : Output) : Type 0 where
  pub reply : Result Reply Refusal
  pub is : a.word ≡ word_of reply
  pub text : out.text.items ≡ step_lines reply (text_at messages a.number)
  pub status : out.refused ≡ is_refused reply

-- what a line writes: what its controller shows; or what its step gives
abbrev pub Writes : Call → Event → State → Output → Type 0
Writes (Show name) e w out =
    (shown_of w.controllers name ≡ Some out.text.items) × (out.refused ≡ false)
Writes call e w out =
    (asks_step call (shows w) ≡ true) × IsWritten (answer_to e w) (after e w).messages out

-- ---- what is done

-- what happens at a time comes to this
abbrev pub StepsTo : What → ℕ → State → State → Outcome → Type 0
StepsTo what at old new outcome =
    (stop : Stop) × (new ≡ after (event what at stop) old)
    × IsOutcome (IsWritten (answer_to (event what at stop) old) new.messages) IsFailed stop outcome

-- a line is done at a shop
abbrev pub IsDone : Done → State → Type 0
IsDone d w =
    (d.event ≡ event_of d.line (shows w).shop d.event.stop)
    × IsOutcome (Writes d.line.call d.event w) (GivesUp d.line.call (shows w)) d.event.stop
    d.outcome

-- a line is done at a shop, and leaves another
abbrev pub DoesLine : Line → State → State → Outcome → Type 0
DoesLine l old new outcome =
    (e : Event) × (new ≡ after e old)
    × IsDone (record { line = l; outcome = outcome; event = e }) old

-- lines in turn
abbrev pub AreDone : List Done → State → Type 0
AreDone [] w = ⊤
AreDone (d ∷ day) w = IsDone d w × AreDone day (after d.event w)

-- lines are done in turn, with these outcomes, from a shop to what it is then
pub record DoLines (lines : List Line) (outcomes : List Outcome) (old new : State) : Type 0 where
  pub day : List Done
  pub lines_are : map (λ d. d.line) day ≡ lines
  pub outcomes_are : map (λ d. d.outcome) day ≡ outcomes
  pub done : AreDone day old
  pub closing : new ≡ after_all (events day) old

-- ---- what is cut off

-- of a line nothing is told: what it asks for happened, to its end, or not yet
abbrev pub IsUntold : Line → State → State → Type 0
IsUntold l old new = (new ≡ old) ⊎ (new ≡ after (event_of l (shows old).shop Run) old)

-- lines are done in turn as far as one, of which nothing is told
pub record IsCutOff (lines : List Line) (old new : State) : Type 0 where
  pub place : ℕ
  pub line : Line
  pub there : slice_get lines place ≡ Some line
  pub outcomes : List Outcome
  pub between : State
  pub done : DoLines (take place lines) outcomes old between
  pub untold : IsUntold line between new
