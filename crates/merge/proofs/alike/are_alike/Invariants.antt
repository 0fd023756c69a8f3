use Rattle.std.proofs.Common.{◌≡◌, drop}
use Rattle.std.specs.Cmp.Lexicographic.{pointwise}
use Rattle.merge.specs.Alike.{is_row}
use Rattle.merge.proofs.alike.are_alike.Given as goal

-- what is left decides
abbrev pub invariant-loop-place : goal.invariant-loop-place
invariant-loop-place l = pointwise (is_row l.levels) (drop l.place l.old) (drop l.place l.new) ≡ pointwise (is_row l.levels) l.old l.new
