use Rattle.master_core.proofs.OrderLaws.{abort_is_of_record, nothing_is_sent, submit_is_of_record}
use Rattle.master_core.proofs.laws.what_goes_out_tells_the_record.Goals as goal

pub returns-clause-sent : goal.returns-clause-sent
returns-clause-sent c = submit_is_of_record

pub returns-clause-asked : goal.returns-clause-asked
returns-clause-asked c = abort_is_of_record

pub returns-clause-none : goal.returns-clause-none
returns-clause-none c = nothing_is_sent
