use Rattle.std.proofs.Common.{◌≡◌, nat_lt, reverse, take}
use Rattle.std.specs.List.{find}
use Rattle.merge.proofs.parent.last_above.Given as goal

-- those so far stand no higher
abbrev pub invariant-loop-place : goal.invariant-loop-place
invariant-loop-place l =
    find (λ r. nat_lt r.depth l.depth) (reverse (take l.place l.rows)) ≡ find (λ r. nat_lt r.depth l.depth) (reverse l.rows)
