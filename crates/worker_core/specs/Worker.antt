-- A worker: the parts that it took and hasn't given up, the spawns that it declined, and what of
-- the parts it may change.
use Rattle.std.specs.Prelude.{◌≡◌, ℕ, ◌==◌, ◌||◌, Bool, true, false, List, [], map}
use Rattle.std.specs.Prelude.{if◌then◌else◌, slice_get, Option, Some, None, is_some, IfSome}
use Rattle.std.specs.Prelude.{Result, Ok, Err}
use Rattle.std.specs.List.{All, find}
use Rattle.std.specs.Option.{option_and_then, option_map_or}
use Rattle.std.specs.Str.{bytes_eq}
use Rattle.ticket_items.specs.Ids.{mem}
use Rattle.ticket_items.specs.Refusal.{number_of}
use Rattle.ticket_items.specs.Resource.{resource_ids}
use Rattle.ticket_items.specs.declared.refusal.Refusal.TheVariants as refusals
use Rattle.ticket_rows.specs.Copies.{with_copies}
use Rattle.ticket_rows.specs.Ticket.{IsValid, ids}
use Rattle.ticket_tree.specs.Part.{PartCopy, is_sound}
use Rattle.controller.specs.declared.queue_status.QueueStatus.{QueueStatus}
use Rattle.controller.specs.declared.queue_status.QueueStatus.TheVariants as queue
pub use Rattle.world_items.specs.End.{end_word}
use Rattle.world_items.specs.declared.end.End.{End}
use Rattle.world_items.specs.declared.end.End.TheVariants.{Completed, Aborted}
use Rattle.worker_core.specs.declared.entry.Entry.{Entry}
use Rattle.worker_core.specs.declared.stage.Stage.{Stage}
use Rattle.worker_core.specs.declared.stage.Stage.TheVariants.{Open, Done, Closed, Declined}
use Rattle.worker_core.specs.Numbers.{are_distinct_numbers}

-- what a worker knows: its name, its master's, and its entries in the order in which they were
-- taken
pub record State : Type 0 where
  pub name : List ℕ
  pub master : List ℕ
  pub entries : List Entry

abbrev pub state : List ℕ → List ℕ → List Entry → State
state name master entries = record { name = name; master = master; entries = entries }

-- ---- stages

abbrev pub is_open_stage : Stage → Bool
is_open_stage Open = true
is_open_stage (Done how) = false
is_open_stage (Closed how) = false
is_open_stage Declined = false

abbrev pub is_closed_stage : Stage → Bool
is_closed_stage Open = false
is_closed_stage (Done how) = false
is_closed_stage (Closed how) = true
is_closed_stage Declined = false

abbrev pub is_declined_stage : Stage → Bool
is_declined_stage Open = false
is_declined_stage (Done how) = false
is_declined_stage (Closed how) = false
is_declined_stage Declined = true

-- whether the work on the part has ended
abbrev pub is_ended_stage : Stage → Bool
is_ended_stage Open = false
is_ended_stage (Done how) = true
is_ended_stage (Closed how) = true
is_ended_stage Declined = false

-- whether there is a part: it was taken, and wasn't given up
abbrev pub keeps_part : Stage → Bool
keeps_part Open = true
keeps_part (Done how) = true
keeps_part (Closed how) = false
keeps_part Declined = false

-- the Status of the queue entry of a part whose work ended so
abbrev pub status_of_end : End → QueueStatus
status_of_end Completed = queue.Completed
status_of_end Aborted = queue.Aborted

-- what a command on an entry is told: while it is open that it is `Running`, then its end; or that
-- it was declined
abbrev pub response_of_stage : Stage → Result QueueStatus ℕ
response_of_stage Open = Ok queue.Running
response_of_stage (Done how) = Ok (status_of_end how)
response_of_stage (Closed how) = Ok (status_of_end how)
response_of_stage Declined = Err (number_of refusals.Declined)

-- ---- entries

-- an entry that is new: of a part that is taken, and of a spawn that is declined
abbrev pub new_entry : PartCopy → ℕ → Entry
new_entry p at = record { spawn_id = p.spawn_id; phase = Open; part = Some p; at = at }

abbrev pub declined_entry : ℕ → ℕ → Entry
declined_entry s at = record { spawn_id = s; phase = Declined; part = None; at = at }

abbrev pub is_open : Entry → Bool
is_open e = is_open_stage e.phase

abbrev pub is_closed : Entry → Bool
is_closed e = is_closed_stage e.phase

abbrev pub is_declined : Entry → Bool
is_declined e = is_declined_stage e.phase

abbrev pub is_ended : Entry → Bool
is_ended e = is_ended_stage e.phase

-- the part of an entry that may be changed: it is open
abbrev pub open_part : Entry → Option PartCopy
open_part e = if is_open e then e.part else None

-- an entry in a stage once what was given back has come: one that is done gives up its part
abbrev pub closed_entry_in : Stage → Entry → Entry
closed_entry_in Open e = e
closed_entry_in (Done how) e = record e { phase = Closed how; part = None }
closed_entry_in (Closed how) e = e
closed_entry_in Declined e = e

abbrev pub closed_entry : Entry → Entry
closed_entry e = closed_entry_in e.phase e

-- whether an entry is of the spawn of a number
abbrev pub is_of : ℕ → Entry → Bool
is_of s e = e.spawn_id == s

-- the numbers of the spawns of entries
abbrev pub numbers : List Entry → List ℕ
numbers entries = map (λ e. e.spawn_id) entries

-- the entry of a spawn
abbrev pub entry_of : List Entry → ℕ → Option Entry
entry_of entries s = find (is_of s) entries

-- the entries, with f of the one of a spawn
abbrev pub with_entry : ℕ → (Entry → Entry) → List Entry → List Entry
with_entry s f entries = map (λ (e : Entry). if is_of s e then f e else e) entries

-- what a command of a spawn is told, which is running while there is no entry
abbrev pub response_in : List Entry → ℕ → Result QueueStatus ℕ
response_in entries s =
    option_map_or (λ e. response_of_stage e.phase) (entry_of entries s) (Ok queue.Running)

-- ---- what may be changed

-- whether an id names a node of a part, a resource of its pools, or a copy that may be changed
abbrev pub has : PartCopy → List ℕ → Bool
has p x = mem x (ids p.rows) || mem x (resource_ids p.rw)

-- whether a node or a resource may be changed through the entry of a spawn: the entry is open, and
-- its part has it
abbrev pub may_change : List Entry → ℕ → List ℕ → Bool
may_change entries s x =
    option_map_or (λ p. has p x) (option_and_then open_part (entry_of entries s)) false

-- ---- what always holds

-- the id and the Status of the node of a part, which is the first of its rows
abbrev pub root_id : PartCopy → List ℕ
root_id p = option_map_or (λ r. r.id) (slice_get p.rows 0) []

abbrev pub root_status : PartCopy → List ℕ
root_status p = option_map_or (λ r. r.status) (slice_get p.rows 0) []

-- whether the node of a part has the Status of its end, if the work on it has ended
abbrev pub has_ended_so : Stage → PartCopy → Bool
has_ended_so Open p = true
has_ended_so (Done how) p = bytes_eq (root_status p) (end_word how)
has_ended_so (Closed how) p = bytes_eq (root_status p) (end_word how)
has_ended_so Declined p = true

-- an entry's part is of its spawn, is a valid ticket with its copies, can have come from a ticket,
-- and has the Status of its end
pub record IsKeptPart (e : Entry) (p : PartCopy) : Type 0 where
  pub own : p.spawn_id ≡ e.spawn_id
  pub valid : IsValid (with_copies p.rows p.rw p.ro)
  pub sound : is_sound p ≡ true
  pub ended : has_ended_so e.phase p ≡ true

-- an entry has a part just while it keeps one, and that is as above
pub record IsKeptEntry (e : Entry) : Type 0 where
  pub held : is_some e.part ≡ keeps_part e.phase
  pub part : IfSome e.part (IsKeptPart e)

-- a worker's name is not its master's, no two of its entries are of one spawn, and each is as above
pub record IsConsistent (w : State) : Type 0 where
  pub apart : bytes_eq w.name w.master ≡ false
  pub once : are_distinct_numbers (numbers w.entries) ≡ true
  pub each : All IsKeptEntry w.entries
