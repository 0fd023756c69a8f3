-- The lines of a controller: each of its works that is open, or each other, once.
use Rattle.std.specs.Prelude.{ℕ, Bool, List, Option, if◌then◌else◌}
use Rattle.std.specs.List.{filter, flat_map}
use Rattle.spawn.specs.declared.records.spawn_rec.SpawnRec.{SpawnRec}
use Rattle.master_core.specs.Master as master
use Rattle.worker_core.specs.Worker as worker
use Rattle.worker_core.specs.declared.entry.Entry.{Entry}
use Rattle.job_list.specs.Work.{is_entry, is_spawn, work_of_entry, work_of_spawn}
use Rattle.job_list.specs.declared.work.Work.{Work}
use Rattle.list_text.specs.JsonLine.{json_line}
use Rattle.list_text.specs.Sizes.{entry_size, spawn_size}
use Rattle.list_text.specs.TabLine.{tab_line}

-- the line of a controller's work at a time: as JSON, or with tabs between
unfoldable pub line : Bool → ℕ → List ℕ → Option ℕ → Work → List ℕ
line is_json now controller bytes w =
    if is_json then json_line controller bytes now w else tab_line controller bytes now w

-- the line of a spawn
abbrev pub spawn_line : Bool → ℕ → master.State → SpawnRec → List ℕ
spawn_line is_json now m r = line is_json now m.name (spawn_size m r) (work_of_spawn m r)

-- the lines of the spawns of a master that are open, or of all others
abbrev pub master_list : Bool → Bool → ℕ → master.State → List ℕ
master_list are_open is_json now m =
    flat_map (spawn_line is_json now m) (filter (is_spawn are_open) m.records)

-- the line of an entry
abbrev pub entry_line : Bool → ℕ → worker.State → Entry → List ℕ
entry_line is_json now w e = line is_json now w.name (entry_size w e) (work_of_entry w e)

-- the lines of the entries of a worker that are open, or of all others
abbrev pub worker_list : Bool → Bool → ℕ → worker.State → List ℕ
worker_list are_open is_json now w =
    flat_map (entry_line is_json now w) (filter (is_entry are_open) w.entries)
