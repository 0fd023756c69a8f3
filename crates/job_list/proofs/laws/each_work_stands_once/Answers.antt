use Rattle.job_list.proofs.Once.{each_entry_once, each_spawn_once}
use Rattle.job_list.proofs.laws.each_work_stands_once.Goals as goal

pub returns-clause-spawns : goal.returns-clause-spawns
returns-clause-spawns c = each_spawn_once

pub returns-clause-entries : goal.returns-clause-entries
returns-clause-entries c = each_entry_once
