use Rattle.std.proofs.Common.{◌≡◌, ◌++◌, drop, map, string_bytes}
use Rattle.job_picture.specs.Rows.{line_of}
use Rattle.job_picture.specs.WorkerPicture.{own_lines}
use Rattle.job_picture.proofs.worker_picture.push_rows.Given as goal

abbrev pub invariant-loop-row : goal.invariant-loop-row
invariant-loop-row l =
    map line_of l.lines.items ++ own_lines l.held (string_bytes l.copies) (drop l.row-index l.rows) ≡ map line_of l.fn.lines.items ++ own_lines l.held (string_bytes l.fn.copies) l.rows
