-- No slash stands behind the place.
use Rattle.std.proofs.Common.{◌≡◌, ◌≤◌, length, drop, true}
use Rattle.http_message.specs.Target.{has_no_slash}
use Rattle.http_message.proofs.target.segment_start.Given as goal

abbrev pub invariant-loop-start : goal.invariant-loop-start
invariant-loop-start l = (l.start ≤ length l.path) × (has_no_slash (drop l.start l.path) ≡ true)

abbrev pub decreases-loop-start : goal.decreases-loop-start
decreases-loop-start l = l.start
