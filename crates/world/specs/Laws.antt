-- Laws of shops.
use Rattle.std.specs.Prelude.{◌≡◌, ◌↔◌, ◌⊎◌, ℕ, List, Some, Ok, slice_get}
use Rattle.ticket_rows.specs.Ticket.{Job}
use Rattle.controller.specs.Step.{Step}
use Rattle.controller.specs.declared.message.Message.{Message}
use Rattle.world_items.specs.declared.reply.Reply.{Reply}
use Rattle.spawn.specs.Marking.{marks}
use Rattle.world.specs.Changing.{Changer, Holds, MayChange}
use Rattle.world.specs.Happening as happening
use Rattle.world.specs.Happening.{after_all, answer_to, answers_to}
use Rattle.plain_shop.specs.MergeAudits.{MergeAuditsMatch}
use Rattle.world.specs.Once.{AreMergedOnce, IsIn, TellsMerge}
use Rattle.plain_shop.specs.Replay as replay
use Rattle.world.specs.Running.{IsStopped, RunsAgree}
use Rattle.plain_shop.specs.SeenTicket.{ticket_seen}
use Rattle.plain_shop.specs.Marks.{shop_marks}
use Rattle.world.specs.Showing.{shop_shown, shows}
use Rattle.world.specs.State.{Controllers, IsConsistent, State, message_at, opening}
use Rattle.world_items.specs.declared.answer.Answer.{Answer}
use Rattle.world_items.specs.declared.event.Event.{Event}
use Rattle.world_items.specs.declared.stop.Stop.TheVariants.{Run}
use Rattle.world_items.specs.declared.what.What.TheVariants.{Deliver}
use Rattle.world_items.specs.declared.word.Word.TheVariants.{Did}

-- the message of a number is handed to its receiver
abbrev pub delivery : ℕ → ℕ → Event
delivery k at = record { what = Deliver k; at = at; stop = Run }

-- a message that was sent is taken by its receiver, whenever it comes
abbrev pub SentIsTaken : Type 0
SentIsTaken =
    (w : State) (k at : ℕ) (m : Message) → IsConsistent w → message_at w.messages k ≡ Some m
    → (reply : Reply) × ((answer_to (delivery k at) w).word ≡ Did reply)

-- where a step of an event can't be saved, the state before it is held, or the one that it leads
-- to; and nothing is sent. Then it is as if its controller had stopped in it, and so it is in what
-- is shown
abbrev pub FailedSaveIsStop : Type 0
FailedSaveIsStop =
    (w : State) (e : Event) (step : Step Controllers Message) (held : Controllers) → IsConsistent w
    → happening.step_of e.what e.at w ≡ Ok step
    → (held ≡ w.controllers) ⊎ (held ≡ step.next)
    → let new : State = record { controllers = held; messages = w.messages } in
    IsStopped happening.machine e w new × IsStopped replay.machine e (shows w) (shows new)

-- ---- who may change what

-- no two may change one node or resource
abbrev pub NoTwoMayChangeOne : Type 0
NoTwoMayChangeOne =
    (w : State) (c d : Changer) (x : List ℕ) → IsConsistent w → MayChange w c x → MayChange w d x → c ≡ d

-- each may change exactly what it holds in the shop that is shown: the master, and a worker through
-- a spawn to it that is open
abbrev pub HoldersMayChange : Type 0
HoldersMayChange =
    (w : State) (c : Changer) (x : List ℕ) → IsConsistent w
    → MayChange w c x ↔ Holds (shop_shown w.controllers) c x

-- ---- merged once

-- events in turn put in the part of a spawn at most once, and that of one that was in before never;
-- and what is in stays in
abbrev pub EachIsMergedOnce : Type 0
EachIsMergedOnce =
    (w : State) (events : List Event) → IsConsistent w
    → AreMergedOnce (answers_to events w)
    × ((s i : ℕ) (a : Answer) → IsIn w s → slice_get (answers_to events w) i ≡ Some a
    → TellsMerge s a → ⊥)
    × ((s : ℕ) → IsIn w s → IsIn (after_all events w) s)

-- past the audits of the ticket in the beginning, those above a spawned node tell once of its merge
-- if one of the answers does, and else never, whatever events happen in turn
abbrev pub MergesAreTold : Type 0
MergesAreTold =
    (name : List ℕ) (workers : List (List ℕ)) (ticket : Job) (events : List Event)
    → IsConsistent (opening name workers ticket) → let first = replay.opening name workers ticket in
    MergeAuditsMatch ticket (replay.answers_to events first) (replay.after_all events first).shop

-- ---- one ticket with one table of holders

-- what events in turn are answered with, and what is shown then, is their replay in the shop that
-- is shown
abbrev pub EventsAreReplayed : Type 0
EventsAreReplayed = RunsAgree happening.machine replay.machine IsConsistent shows

-- what is shown in the beginning
abbrev pub OpeningIsShown : Type 0
OpeningIsShown =
    (name : List ℕ) (workers : List (List ℕ)) (ticket : Job)
    → shows (opening name workers ticket) ≡ replay.opening name workers ticket

-- the ticket that is seen is the master's
abbrev pub TicketIsSeen : Type 0
TicketIsSeen =
    (w : State) → IsConsistent w → ticket_seen (shop_shown w.controllers) ≡ w.controllers.master.ticket

-- what that ticket shows of the spawns that are out is what the master shows
abbrev pub MarksAreShown : Type 0
MarksAreShown =
    (w : State) → IsConsistent w
    → shop_marks (shop_shown w.controllers)
    ≡ marks w.controllers.master.ticket.rows w.controllers.master.records
