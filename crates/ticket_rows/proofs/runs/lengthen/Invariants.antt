use Rattle.std.proofs.Common.{◌≡◌, ◌<◌, ℕ, Some, length, slice_get}
use Rattle.std.specs.Vec.{vec_capacity}
use Rattle.ticket_rows.proofs.Climbed.{Climb}
use Rattle.ticket_rows.proofs.runs.lengthen.Given as goal

-- where the node stands below which one more is counted, and how far up that is done
abbrev pub invariant-loop-above : goal.invariant-loop-above
invariant-loop-above l =
    (p : ℕ) × (slice_get l.places.items l.fn.node ≡ Some p)
    × Climb p l.fn.runs.items l.runs.items l.places.items l.parent l.place l.above
    × (l.parent < length l.parents) × (vec_capacity l.runs ≡ vec_capacity l.fn.runs)

abbrev pub decreases-loop-above : goal.decreases-loop-above
decreases-loop-above l = l.place
