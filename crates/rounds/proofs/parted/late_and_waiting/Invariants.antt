use Rattle.rounds.specs.Parted.{IsParted, is_late}
use Rattle.rounds.proofs.parted.late_and_waiting.Given as goal

-- those so far
abbrev pub invariant-loop-one : goal.invariant-loop-one
invariant-loop-one g l = IsParted (is_late l.now) l.yielded l.left.items l.late.items
