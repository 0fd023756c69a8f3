use Rattle.std.proofs.Common.{rules}
use Rattle.job_list.specs.Work.{work_of_spawn}
use Rattle.job_list.proofs.work.Work.of_spawn.Goals as goal

pub returns : goal.returns
unfolding work_of_spawn
returns c = search rules
