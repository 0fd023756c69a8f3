-- What the lines of a day come to at one ticket with one table of holders.
use Rattle.std.specs.Prelude.{◌≡◌, ◌↔◌, ◌⊎◌, ℕ, true, false, List, [], ◌∷◌, map, is_some, Option}
use Rattle.std.specs.Prelude.{Some, Result, slice_get, take, ⊤}
use Rattle.std.specs.Str.{bytes_eq}
use Rattle.ticket_items.specs.declared.refusal.Refusal.{Refusal}
use Rattle.ticket_rows.specs.Ticket.{Job}
use Rattle.plain_shop.specs.MergeAudits.{MergeAuditsMatch}
use Rattle.plain_shop.specs.Replay as replay
use Rattle.plain_shop.specs.Replay.{TaggedShop}
use Rattle.streams.specs.declared.command.Output.{Output}
use Rattle.world.specs.Changing.{Changer, Holds, MayChange}
use Rattle.world.specs.Once.{AreMergedOnce}
use Rattle.world.specs.Showing.{shows}
use Rattle.world.specs.State.{State, opening}
use Rattle.world_items.specs.Word.{word_of}
use Rattle.world_items.specs.declared.answer.Answer.{Answer}
use Rattle.world_items.specs.declared.event.Event.{Event}
use Rattle.world_items.specs.declared.reply.Reply.{Reply}
use Rattle.world_items.specs.declared.stop.Stop.TheVariants.{Run}
use Rattle.file_commands.specs.Step.{is_refused, step_lines}
use Rattle.jdf_commands.specs.WorldCommand.Run.{shown_text}
use Rattle.shop_day.specs.Done.{Done, IsOutcome, events}
use Rattle.shop_day.specs.Lines.{GivesUp, asks_step, event_of}
use Rattle.shop_day.specs.declared.line.Call.{Call}
use Rattle.shop_day.specs.declared.line.Call.TheVariants.{Show}
use Rattle.shop_day.specs.declared.line.Line.{Line}
use Rattle.shop_day.specs.declared.outcome.Outcome.{Outcome}

-- what is written of an answer: its reply or its refusal, and a text just where one goes out
pub record IsSaid (a : Answer) (out : Output) : Type 0 where
  pub reply : Result Reply Refusal
  pub is : a.word ≡ word_of reply
  pub sent : Option (List ℕ)
  pub numbered : is_some sent ≡ is_some a.number
  pub text : out.text.items ≡ step_lines reply sent
  pub status : out.refused ≡ is_refused reply

-- what a line writes: of a step what the one ticket answers; of a look at the master the ticket,
-- with what it shows of the spawns that are out
abbrev pub WritesSaid : Call → Event → TaggedShop → Output → Type 0
WritesSaid (Show name) e p out =
    (bytes_eq name p.shop.master ≡ true → out.text.items ≡ shown_text p.shop)
    × (out.refused ≡ false)
WritesSaid call e p out = (asks_step call p ≡ true) × IsSaid (replay.answer_to e p) out

-- a line is done at the one ticket
abbrev pub IsReplayed : Done → TaggedShop → Type 0
IsReplayed d p =
    (d.event ≡ event_of d.line p.shop d.event.stop)
    × IsOutcome (WritesSaid d.line.call d.event p) (GivesUp d.line.call p) d.event.stop d.outcome

-- lines in turn
abbrev pub AreReplayed : List Done → TaggedShop → Type 0
AreReplayed [] p = ⊤
AreReplayed (d ∷ day) p = IsReplayed d p × AreReplayed day (replay.after d.event p)

-- lines are done in turn at one ticket with one table of holders, with these outcomes, and what is
-- shown at the end is what that comes to; the part of each spawn is put in once at most, of which
-- the audits of the node above tell just as the answers do; and each may change at the end just
-- what it holds, so no two one node or resource
pub record IsOneTicket (lines : List Line) (outcomes : List Outcome) (first closing : State)
    : Type 0 where
  pub day : List Done
  pub lines_are : map (λ d. d.line) day ≡ lines
  pub outcomes_are : map (λ d. d.outcome) day ≡ outcomes
  pub replayed : AreReplayed day (shows first)
  pub shown : shows closing ≡ replay.after_all (events day) (shows first)
  pub once : AreMergedOnce (replay.answers_to (events day) (shows first))
  pub merges :
      (name : List ℕ) (workers : List (List ℕ)) (ticket : Job)
      → first ≡ opening name workers ticket
      → MergeAuditsMatch ticket (replay.answers_to (events day) (shows first)) (shows closing).shop
  pub alone :
      (c d : Changer) (x : List ℕ) → MayChange closing c x → MayChange closing d x → c ≡ d
  pub held :
      (c : Changer) (x : List ℕ) → MayChange closing c x ↔ Holds (shows closing).shop c x

-- lines are done in turn at one ticket as far as one, of which nothing is told: what is shown is
-- what those before it come to, or that to which what it asks for has happened, to its end
pub record IsCutOff (lines : List Line) (first closing : State) : Type 0 where
  pub place : ℕ
  pub line : Line
  pub there : slice_get lines place ≡ Some line
  pub outcomes : List Outcome
  pub between : State
  pub before : IsOneTicket (take place lines) outcomes first between
  pub untold :
      (shows closing ≡ shows between)
      ⊎ (shows closing ≡ replay.after (event_of line (shows between).shop Run) (shows between))
