-- A shop as one ticket with one table of holders: what its controllers know, said once.
use Rattle.std.specs.Prelude.{ℕ, suc, ◌==◌, Bool, true, false, List, length, Option}
use Rattle.std.specs.List.{find}
use Rattle.ticket_rows.specs.Place.{Place, Row}
use Rattle.world_items.specs.declared.holder.Holder.{Holder}

-- how far a spawn has come: its part is on the way to the worker, is worked on, is finished, was
-- put in, or was put in and the worker has given it up; or the worker declined it before any work,
-- or declined it and the master has taken it back
pub data Phase : Type 0 where
  Away : Phase
  Open : Phase
  Done : Phase
  Merged : Phase
  Closed : Phase
  Declined : Phase
  Withdrawn : Phase

-- a spawn of a node to a worker, with the resources of which copies went that may be changed
pub record SpawnState : Type 0 where
  pub number : ℕ
  pub node : List ℕ
  pub worker : List ℕ
  pub rw : List (List ℕ)
  pub phase : Phase

-- what of each node and each resource may change, by its id
abbrev pub Rows : Type 0
Rows = List ℕ → Option Row

-- who holds each node and each resource, by its id. One that doesn't stand has no holder
abbrev pub Holders : Type 0
Holders = List ℕ → Option Holder

-- one ticket with one table of holders. What stands in `seen` and in `now` stands in `tree`, so
-- they differ in rows alone
pub record PlainState : Type 0 where
  -- the names of the controllers
  pub master : List ℕ
  pub workers : List (List ℕ)
  -- the id of the job, and where all stands, in ticket order, with all that no worker may change
  pub job : List ℕ
  pub tree : List Place
  -- what of it may change: as the master sees it, and as it is with the workers' work in it
  pub seen : Rows
  pub now : Rows
  -- who holds what
  pub holder : Holders
  -- the spawns, in the order of their numbers
  pub spawns : List SpawnState

-- ---- spawns

-- the number of the next spawn
abbrev pub next_number : PlainState → ℕ
next_number p = suc (length p.spawns)

-- whether a spawn has the number
abbrev pub has_number : ℕ → SpawnState → Bool
has_number s a = a.number == s

-- the spawn of a number
abbrev pub spawn_of : ℕ → PlainState → Option SpawnState
spawn_of s p = find (has_number s) p.spawns

-- ---- phases

abbrev pub is_away : Phase → Bool
is_away Away = true
is_away _ = false

abbrev pub is_open : Phase → Bool
is_open Open = true
is_open _ = false

abbrev pub is_done : Phase → Bool
is_done Done = true
is_done _ = false

abbrev pub is_merged : Phase → Bool
is_merged Merged = true
is_merged _ = false

abbrev pub is_closed : Phase → Bool
is_closed Closed = true
is_closed _ = false

abbrev pub is_declined : Phase → Bool
is_declined Declined = true
is_declined _ = false

-- whether the worker took the part
abbrev pub is_taken : Phase → Bool
is_taken Away = false
is_taken Declined = false
is_taken Withdrawn = false
is_taken _ = true

-- whether the part is still to be put in, or to be taken back
abbrev pub is_out : Phase → Bool
is_out Merged = false
is_out Closed = false
is_out Withdrawn = false
is_out _ = true
