-- What a controller has out: parts that another controller is to have.
use Rattle.std.specs.Prelude.{ℕ, List, Option, Some, None, if◌then◌else◌}
use Rattle.std.specs.Borrow.{Bor}
use Rattle.std.specs.List.{filter_map}
use Rattle.spawn.specs.Records.{is_out}
use Rattle.spawn.specs.declared.records.spawn_rec.SpawnRec.{SpawnRec}
use Rattle.stored_state.specs.Opened.{AnyController, of_master, of_worker}
use Rattle.worker_core.specs.declared.entry.Entry.{Entry}
use Rattle.worker_core.specs.declared.stage.Stage.{Stage}
use Rattle.worker_core.specs.declared.stage.Stage.TheVariants.{Open, Done, Closed, Declined}

-- a spawn, and the name of the controller that is to have its part
abbrev pub Sending : Type 0
Sending = ℕ × List ℕ

-- the same as code tells of it
abbrev pub sending_seen : ℕ × Bor (List ℕ) → Sending
sending_seen s = (s.0, s.1.now)

-- a master's part is with the worker, or on its way there, while the spawn is out
abbrev pub sending_of : SpawnRec → Option Sending
sending_of r = if is_out r then Some (r.id, r.worker) else None

-- a worker's part is on its way to the master from the end of the work until it has come
abbrev pub returning_in : List ℕ → ℕ → Stage → Option Sending
returning_in master spawn Open = None
returning_in master spawn (Done how) = Some (spawn, master)
returning_in master spawn (Closed how) = None
returning_in master spawn Declined = None

abbrev pub returning_of : List ℕ → Entry → Option Sending
returning_of master e = returning_in master e.spawn_id e.phase

-- what a controller has out, in the order of its spawns or entries
abbrev pub out_of : AnyController → List Sending
out_of (of_master m) = filter_map sending_of m.records
out_of (of_worker w) = filter_map (returning_of w.master) w.entries
