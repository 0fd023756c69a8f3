use Rattle.master_core.proofs.MessageLaws.{in_stays_in, merged_is_in}
use Rattle.master_core.proofs.laws.a_spawn_is_merged_once.Goals as goal

pub returns-clause-merged : goal.returns-clause-merged
returns-clause-merged c = merged_is_in

pub returns-clause-stays : goal.returns-clause-stays
returns-clause-stays c = in_stays_in
