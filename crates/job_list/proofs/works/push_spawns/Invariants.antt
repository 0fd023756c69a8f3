use Rattle.std.proofs.Common.{◌≡◌, ◌++◌, drop, filter, map}
use Rattle.job_list.specs.Work.{is_spawn, work_of_spawn}
use Rattle.job_list.proofs.works.push_spawns.Given as goal

abbrev pub invariant-loop-spawn : goal.invariant-loop-spawn
invariant-loop-spawn l = l.works.items ++ map (work_of_spawn l.master) (filter (is_spawn l.are_open) (drop l.spawn-index l.records)) ≡ l.fn.works.items ++ map (work_of_spawn l.master) (filter (is_spawn l.are_open) l.master.records)
