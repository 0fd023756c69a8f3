use Rattle.std.proofs.Common.{rules}
use Rattle.job_list.specs.Work.{work_of_entry}
use Rattle.job_list.proofs.work.Work.of_entry.Goals as goal

pub returns : goal.returns
unfolding work_of_entry
returns c = search rules
