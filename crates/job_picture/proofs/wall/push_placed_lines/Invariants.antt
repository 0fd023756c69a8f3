use Rattle.std.proofs.Common.{length}
use Rattle.job_picture.specs.Rows.{line_of}
use Rattle.job_picture.specs.Wall.{column_rows, place_line}
use Rattle.job_picture.proofs.Lines.{IsPlaced}
use Rattle.job_picture.proofs.wall.push_placed_lines.Given as goal

abbrev pub invariant-loop-number : goal.invariant-loop-number
invariant-loop-number l = IsPlaced line_of (place_line l.top (column_rows (length l.lines))) l.lines l.number l.fn.text.items l.text.items
