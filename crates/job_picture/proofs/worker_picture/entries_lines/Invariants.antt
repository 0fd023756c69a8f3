use Rattle.std.proofs.Common.{[], map}
use Rattle.std.specs.List.{flat_map}
use Rattle.job_picture.specs.Rows.{line_of}
use Rattle.job_picture.specs.WorkerPicture.{entry_lines}
use Rattle.job_picture.proofs.Lines.{IsSoFar}
use Rattle.job_picture.proofs.worker_picture.entries_lines.Given as goal

abbrev pub invariant-loop-entry : goal.invariant-loop-entry
invariant-loop-entry l = IsSoFar (flat_map entry_lines) l.entries l.entry-index [] (map line_of l.lines.items)
