use Rattle.std.proofs.Common.{◌≡◌, map, take}
use Rattle.spawn.specs.Parts.{as_ancestor}
use Rattle.spawn.proofs.claims.above.as_ancestors.Given as goal

-- those of the rows so far
abbrev pub invariant-loop-row : goal.invariant-loop-row
invariant-loop-row l = l.ancestors.items ≡ map (λ s. as_ancestor s.now) (take l.row-index l.rows)
