use Rattle.std.proofs.Common.{◌≡◌, [], map, take}
use Rattle.spawn.specs.Parts.{way_from}
use Rattle.spawn.proofs.claims.above.way_to.Given as goal

-- the way to the last of the rows so far
abbrev pub invariant-loop-place : goal.invariant-loop-place
invariant-loop-place l = map (λ s. s.now) l.way.items ≡ way_from [] (take l.place l.rows)
