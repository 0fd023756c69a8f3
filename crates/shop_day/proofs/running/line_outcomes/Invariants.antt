use Rattle.shop_day.proofs.Days.{AreSoFar}
use Rattle.shop_day.proofs.running.line_outcomes.Given as goal

-- the lines so far were done in turn, with these outcomes
abbrev pub invariant-loop-line : goal.invariant-loop-line
invariant-loop-line g l = AreSoFar l.fn.lines.items l.yielded l.outcomes.items l.outcomes.len l.outcomes.cap l.initial.shop l.shop
