use Rattle.job_picture.specs.Rows.{is_available}
use Rattle.job_picture.proofs.Lines.{IsCounted}
use Rattle.job_picture.proofs.rows.count_available.Given as goal

abbrev pub invariant-loop-resource : goal.invariant-loop-resource
invariant-loop-resource l = IsCounted is_available l.pool l.resource-index l.count
