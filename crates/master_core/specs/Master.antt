-- A master: its ticket, and the records of the spawns that it made of it.
use Rattle.std.specs.Prelude.{◌≡◌, ℕ, ◌==◌, Bool, true, false, List, ◌∷◌, length, map}
use Rattle.std.specs.Prelude.{suc, if◌then◌else◌, Option, Some, slice_get}
use Rattle.std.specs.List.{All, find}
use Rattle.std.specs.Option.{option_map_or}
use Rattle.ticket_items.specs.Ids.{are_distinct, mem}
use Rattle.ticket_rows.specs.Ticket.{IsValid, Job}
use Rattle.spawn.specs.Holdings.{Holdings, IsTable}
use Rattle.spawn.specs.Laws.{StandApart}
use Rattle.spawn.specs.Records.{is_out}
use Rattle.spawn.specs.Stored.{stands_in}
use Rattle.spawn.specs.Table.{holder_of, is_masters}
use Rattle.spawn.specs.declared.records.phase.Phase.{Phase}
use Rattle.spawn.specs.declared.records.phase.Phase.TheVariants.{Merged, Withdrawn}
use Rattle.spawn.specs.declared.records.spawn_rec.SpawnRec.{SpawnRec}
use Rattle.world_items.specs.declared.holder.Holder.{Holder}

-- what a master knows: its name, its workers', its ticket, and the records of its spawns in the
-- order in which they went out
pub record State : Type 0 where
  pub name : List ℕ
  pub workers : List (List ℕ)
  pub ticket : Job
  pub records : List SpawnRec

abbrev pub state : List ℕ → List (List ℕ) → Job → List SpawnRec → State
state name workers ticket records =
    record { name = name; workers = workers; ticket = ticket; records = records }

-- ---- records

-- the number of the next spawn
abbrev pub next_number : List SpawnRec → ℕ
next_number records = suc (length records)

-- whether a record is that of the spawn of a number
abbrev pub is_of : ℕ → SpawnRec → Bool
is_of s r = r.id == s

-- the record of a spawn
abbrev pub record_of : List SpawnRec → ℕ → Option SpawnRec
record_of records s = find (is_of s) records

-- whether a spawn is out
abbrev pub is_spawn_out : List SpawnRec → ℕ → Bool
is_spawn_out records s = option_map_or is_out (record_of records s) false

-- the record of a spawn in a phase
abbrev pub in_phase : Phase → SpawnRec → SpawnRec
in_phase phase r = record r { phase = phase }

-- the records, with that of a spawn in a phase
abbrev pub with_phase : Phase → ℕ → List SpawnRec → List SpawnRec
with_phase phase s records =
    map (λ (r : SpawnRec). if is_of s r then in_phase phase r else r) records

-- a record, and the records with that of a spawn, once its part was put in
abbrev pub merged_record : SpawnRec → SpawnRec
merged_record r = in_phase Merged r

abbrev pub with_merged : ℕ → List SpawnRec → List SpawnRec
with_merged s records = with_phase Merged s records

-- the same, once it was withdrawn
abbrev pub withdrawn_record : SpawnRec → SpawnRec
withdrawn_record r = in_phase Withdrawn r

abbrev pub with_withdrawn : ℕ → List SpawnRec → List SpawnRec
with_withdrawn s records = with_phase Withdrawn s records

-- ---- who holds what

-- who holds an id: a spawn that is out, or the master. One that isn't in the ticket has no holder
abbrev pub holder : State → List ℕ → Option Holder
holder w x = holder_of w.ticket.rows w.records x

-- whether the master may change a node or a resource: it holds it
abbrev pub may_change : State → List ℕ → Bool
may_change w x = option_map_or is_masters (holder w x) false

-- ---- what always holds

-- spawns are numbered from 1 on, in the order of their records
abbrev pub IsNumbered : List SpawnRec → Type 0
IsNumbered records = (k : ℕ) (r : SpawnRec) → slice_get records k ≡ Some r → r.id ≡ suc k

-- no two controllers have one name; the ticket is valid; the records are in order, each spawn went
-- to a worker, and its node and the resources of its copies stand in the ticket, also once it is
-- merged or withdrawn; and they stand well beside the ticket: each that is out is good, and no two
-- of those claim one thing
pub record IsConsistent (w : State) : Type 0 where
  pub names : are_distinct (w.name ∷ w.workers) ≡ true
  pub valid : IsValid w.ticket.rows
  pub numbered : IsNumbered w.records
  pub sent : All (λ r. mem r.worker w.workers ≡ true) w.records
  pub recorded : All (λ r. stands_in w.ticket.rows r ≡ true) w.records
  pub apart : StandApart w.ticket.rows w.records

-- all that, and the table of holders beside it is that of the ticket and the records
pub record IsInStep (w : State) (h : Holdings) : Type 0 where
  pub kept : IsConsistent w
  pub table : IsTable w.ticket.rows w.records h
