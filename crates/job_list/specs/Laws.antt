-- Laws of lists of work.
use Rattle.std.specs.Prelude.{◌++◌, true, false, map}
use Rattle.std.specs.List.Sorted.{IsPermutation}
use Rattle.master_core.specs.Master as master
use Rattle.worker_core.specs.Worker as worker
use Rattle.job_list.specs.Work.{work_of_entry, work_of_spawn, works_of_master, works_of_worker}

-- what is open and all other are each spawn's work, each once
abbrev pub EachSpawnOnce : Type 0
EachSpawnOnce =
    (m : master.State)
    → IsPermutation (map (work_of_spawn m) m.records)
    (works_of_master true m ++ works_of_master false m)

-- the same of entries
abbrev pub EachEntryOnce : Type 0
EachEntryOnce =
    (w : worker.State)
    → IsPermutation (map (work_of_entry w) w.entries)
    (works_of_worker true w ++ works_of_worker false w)
