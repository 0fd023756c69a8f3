use Rattle.std.proofs.Common.{◌≡◌, ◌++◌, drop, filter}
use Rattle.std.specs.List.{flat_map}
use Rattle.job_list.specs.Work.{is_spawn}
use Rattle.list_text.specs.Lists.{master_list, spawn_line}
use Rattle.list_text.proofs.lists.push_master_list.Given as goal

abbrev pub invariant-loop-spawn : goal.invariant-loop-spawn
invariant-loop-spawn l =
    l.text.items ++ flat_map (spawn_line l.is_json l.now l.master) (filter (is_spawn l.are_open) (drop l.spawn-index l.records)) ≡ l.fn.text.items ++ master_list l.are_open l.is_json l.now l.master
