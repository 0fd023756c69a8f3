use Rattle.std.proofs.Common.{◌≤◌, length, vec_capacity}
use Rattle.rounds.specs.Line.{AreToldOf}
use Rattle.rounds.proofs.line.refuse_all.Given as goal

-- those so far are refused, and there is room for the others
abbrev pub invariant-loop-one : goal.invariant-loop-one
invariant-loop-one g l =
    record {
      refused : AreToldOf (g.A.Recipient.is_told l.now) l.fn.refused l.yielded l.answered.items;
      room : length l.fn.waiting.items ≤ vec_capacity l.answered;
    }
