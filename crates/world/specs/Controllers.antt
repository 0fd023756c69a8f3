-- The controllers of a shop, each as its state is stored, and how one is found by its name.
use Rattle.std.specs.Prelude.{ℕ, ◌||◌, Bool, List, map, if◌then◌else◌, is_some, Option}
use Rattle.std.specs.List.{find}
use Rattle.std.specs.Option.{option_and_then}
use Rattle.std.specs.Str.{bytes_eq}
use Rattle.master_core.specs.Master as master
use Rattle.worker_core.specs.Worker as worker
use Rattle.worker_core.specs.declared.entry.Entry.{Entry}

-- the master and its workers, in the order in which it names them
pub record Controllers : Type 0 where
  pub master : master.State
  pub workers : List worker.State

abbrev pub is_named : List ℕ → worker.State → Bool
is_named name w = bytes_eq w.name name

-- the worker of a name
abbrev pub worker_of : List worker.State → List ℕ → Option worker.State
worker_of workers name = find (is_named name) workers

-- the workers, with the one of a name as it is next
abbrev pub with_worker : List ℕ → worker.State → List worker.State → List worker.State
with_worker name next workers = map (λ w. if is_named name w then next else w) workers

-- the entry of a spawn at the worker of a name
abbrev pub entry_at : List worker.State → List ℕ → ℕ → Option Entry
entry_at workers name s =
    option_and_then (λ v. worker.entry_of v.entries s) (worker_of workers name)

-- whether a controller has the name
abbrev pub is_controller : Controllers → List ℕ → Bool
is_controller c name = bytes_eq name c.master.name || is_some (worker_of c.workers name)
