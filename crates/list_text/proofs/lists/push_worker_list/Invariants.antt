use Rattle.std.proofs.Common.{◌≡◌, ◌++◌, drop, filter}
use Rattle.std.specs.List.{flat_map}
use Rattle.job_list.specs.Work.{is_entry}
use Rattle.list_text.specs.Lists.{entry_line, worker_list}
use Rattle.list_text.proofs.lists.push_worker_list.Given as goal

abbrev pub invariant-loop-entry : goal.invariant-loop-entry
invariant-loop-entry l =
    l.text.items ++ flat_map (entry_line l.is_json l.now l.worker) (filter (is_entry l.are_open) (drop l.entry-index l.entries)) ≡ l.fn.text.items ++ worker_list l.are_open l.is_json l.now l.worker
