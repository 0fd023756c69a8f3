use Rattle.worker_core.specs.Worker.{is_declined}
use Rattle.job_picture.proofs.Lines.{IsCounted}
use Rattle.job_picture.proofs.worker_picture.count_declined.Given as goal

abbrev pub invariant-loop-entry : goal.invariant-loop-entry
invariant-loop-entry l = IsCounted is_declined l.entries l.entry-index l.count
