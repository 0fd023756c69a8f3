use Rattle.std.proofs.Common.{◌≡◌, ◌++◌, drop, filter, map}
use Rattle.job_list.specs.Work.{is_entry, work_of_entry}
use Rattle.job_list.proofs.works.push_entries.Given as goal

abbrev pub invariant-loop-entry : goal.invariant-loop-entry
invariant-loop-entry l = l.works.items ++ map (work_of_entry l.worker) (filter (is_entry l.are_open) (drop l.entry-index l.entries)) ≡ l.fn.works.items ++ map (work_of_entry l.worker) (filter (is_entry l.are_open) l.worker.entries)
