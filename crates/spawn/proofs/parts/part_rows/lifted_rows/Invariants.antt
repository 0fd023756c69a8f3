use Rattle.std.proofs.Common.{◌≡◌, map, take}
use Rattle.spawn.specs.Parts.{lifted_row}
use Rattle.spawn.proofs.parts.part_rows.lifted_rows.Given as goal

-- the rows so far
abbrev pub invariant-loop-place : goal.invariant-loop-place
invariant-loop-place l = l.lifted.items ≡ map (lifted_row l.levels) (take l.place l.rows)
