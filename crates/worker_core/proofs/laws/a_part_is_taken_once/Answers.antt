use Rattle.worker_core.proofs.MessageLaws.{submit_is_again, submit_is_taken}
use Rattle.worker_core.proofs.laws.a_part_is_taken_once.Goals as goal

pub returns-clause-taken : goal.returns-clause-taken
returns-clause-taken c = submit_is_taken

pub returns-clause-again : goal.returns-clause-again
returns-clause-again c = submit_is_again
