-- What `loop` writes for a script, and why it gives up.
use Rattle.std.specs.Prelude.{◌≡◌, ◌⊎◌, ◌↔◌, ℕ, Bool, List, ◌++◌, Ok}
use Rattle.jdf_commands.specs.WorldCommand.Run.{shown_text}
use Rattle.streams.specs.Ends.{EndsWith, IsFaultOf}
use Rattle.streams.specs.Streams.{IsInput, Traffic}
use Rattle.streams.specs.declared.fault.Fault.{Fault}
use Rattle.streams.specs.declared.fault.Fault.TheVariants.{Device}
use Rattle.streams.specs.declared.refused.Refused.{Refused}
use Rattle.ticket_rows.specs.Ticket.{Job}
use Rattle.world.specs.Changing.{Changer, Holds, MayChange}
use Rattle.plain_shop.specs.MergeAudits.{MergeAuditsMatch}
use Rattle.world.specs.Once.{AreMergedOnce}
use Rattle.plain_shop.specs.Replay as replay
use Rattle.world.specs.Showing.{shows}
use Rattle.world.specs.State.{State, opening}
use Rattle.world_script.specs.Script.{IsReadAsRunning, IsRefusalOfRunning}
use Rattle.world_script.specs.declared.script.Script.{Script}
use Rattle.jdf_loop.specs.EventLine.{has_too_large, lines}
use Rattle.jdf_loop.specs.Losses.{answers_in, kept_events, left_by_all, lines_to}
use Rattle.world_items.specs.declared.event.Event.{Event}

-- what is written once events have happened in turn in a shop: a line for each, and the ticket that
-- its master sees at the end; refused where a message was too large
pub record IsRunFrom (first : State) (events : List Event) (text : List ℕ) (refused : Bool)
    : Type 0 where
  pub written :
      text ≡ lines (lines_to events first) ++ shown_text (shows (left_by_all events first)).shop
  pub status : refused ≡ has_too_large (lines_to events first)

-- a shop's events, but those that are lost, happen in one ticket with one table of holders: the
-- answers are its, and it is shown at the end; the part of each spawn is put in once at most, of
-- which the audits of the node above tell just as the answers do; and each may change at the end
-- just what it holds, so no two one node or resource
pub record IsOneTicket (name : List ℕ) (workers : List (List ℕ)) (ticket : Job) (events : List Event)
    (closing : State) : Type 0 where
  pub said :
      answers_in (lines_to events (opening name workers ticket))
      ≡ replay.answers_to (kept_events events (opening name workers ticket))
      (replay.opening name workers ticket)
  pub shown :
      shows closing
      ≡ replay.after_all (kept_events events (opening name workers ticket))
      (replay.opening name workers ticket)
  pub once : AreMergedOnce (answers_in (lines_to events (opening name workers ticket)))
  pub merges :
      MergeAuditsMatch ticket (answers_in (lines_to events (opening name workers ticket)))
      (shows closing).shop
  pub alone :
      (c d : Changer) (x : List ℕ) → MayChange closing c x → MayChange closing d x → c ≡ d
  pub held : (c : Changer) (x : List ℕ) → MayChange closing c x ↔ Holds (shows closing).shop c x

-- what is written for a script, whose events happen from the beginning on, when its master holds
-- all
pub record IsRunOf (script : Script) (text : List ℕ) (refused : Bool) : Type 0 where
  pub run :
      IsRunFrom (opening script.master script.workers script.ticket) script.events text refused
  pub one_ticket :
      IsOneTicket script.master script.workers script.ticket script.events
      (left_by_all script.events (opening script.master script.workers script.ticket))

-- the input is read as this script, in which no controller stops
pub record IsScript (input : Traffic) (script : Script) : Type 0 where
  pub bytes : List ℕ
  pub is_input : IsInput input bytes
  pub read : IsReadAsRunning bytes (Ok script)

-- what is written for the script that was read
abbrev pub IsOutput : Traffic → List ℕ → Bool → Type 0
IsOutput input text refused =
    (script : Script) × IsScript input script × IsRunOf script text refused

-- the script was read, and then the network or a controller's keeper failed, or memory ran out
abbrev pub IsCutOff : Traffic → Fault → Type 0
IsCutOff input fault =
    ((script : Script) × IsScript input script) × ((why : Refused) × (fault ≡ Device why))

-- why nothing is written: the script isn't read, or its run is cut off
abbrev pub IsFault : Traffic → Fault → Type 0
IsFault input fault = IsFaultOf IsRefusalOfRunning input fault ⊎ IsCutOff input fault

-- how `loop` ends: with what it writes, or with why it gives up
abbrev pub EndsLoop : Traffic → Traffic → Traffic → ℕ → Type 0
EndsLoop input output told status =
    EndsWith (IsOutput input) (IsFault input) output told status
