use Rattle.worker_core.specs.Worker.{is_closed}
use Rattle.job_picture.proofs.Lines.{IsCounted}
use Rattle.job_picture.proofs.worker_picture.count_closed.Given as goal

abbrev pub invariant-loop-entry : goal.invariant-loop-entry
invariant-loop-entry l = IsCounted is_closed l.entries l.entry-index l.count
