use Rattle.std.proofs.Common.{◌≤◌, length, vec_capacity}
use Rattle.rounds.proofs.Answering.{AreGiven}
use Rattle.rounds.proofs.line.give_all.Given as goal

-- those so far are answered, and there is room for the others
abbrev pub invariant-loop-one : goal.invariant-loop-one
invariant-loop-one g l =
    record {
      given : AreGiven (g.A.Recipient.is_told l.now) l.yielded l.answered.items;
      room : length l.fn.waiting.items ≤ vec_capacity l.answered;
    }
