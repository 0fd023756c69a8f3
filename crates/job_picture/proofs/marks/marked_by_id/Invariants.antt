use Rattle.std.proofs.Common.{◌≡◌, ℕ, List, drop}
use Rattle.job_picture.specs.Marked.{mark_in, mark_of}
use Rattle.job_picture.proofs.marks.marked_by_id.Given as goal

-- the table of the marks from here on
abbrev pub invariant-loop-place : goal.invariant-loop-place
invariant-loop-place l = (x : List ℕ) → mark_in l.table x ≡ mark_of (drop l.place l.marks) x
