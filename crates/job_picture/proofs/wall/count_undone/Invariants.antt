use Rattle.std.proofs.Common.{map}
use Rattle.job_picture.specs.Rows.{line_of}
use Rattle.job_picture.specs.Wall.{is_line_undone}
use Rattle.job_picture.proofs.Lines.{IsCountedIn}
use Rattle.job_picture.proofs.wall.count_undone.Given as goal

abbrev pub invariant-loop-line : goal.invariant-loop-line
invariant-loop-line l = IsCountedIn line_of is_line_undone l.lines l.line-index l.count
