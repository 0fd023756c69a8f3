use Rattle.std.proofs.Common.{[], map}
use Rattle.job_picture.specs.Marked.{mark_in}
use Rattle.job_picture.specs.Picture.{held_line}
use Rattle.job_picture.specs.Rows.{line_of}
use Rattle.job_picture.proofs.Lines.{IsSoFar}
use Rattle.job_picture.proofs.master_picture.held_lines.Given as goal

abbrev pub invariant-loop-place : goal.invariant-loop-place
invariant-loop-place l = IsSoFar (map (held_line l.master (mark_in l.marked))) l.rows l.place [] (map line_of l.lines.items)
