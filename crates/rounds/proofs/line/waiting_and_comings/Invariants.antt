use Rattle.std.proofs.Common.{◌≡◌, ◌≤◌, length, vec_capacity}
use Rattle.rounds.specs.Line.{comings_of, waiting_of}
use Rattle.rounds.proofs.line.waiting_and_comings.Given as goal

-- the errands so far are parted, and there is room for the others
abbrev pub invariant-loop-errand : goal.invariant-loop-errand
invariant-loop-errand g l =
    record {
      waiting : l.waiting.items ≡ waiting_of l.yielded;
      comings : l.comings.items ≡ comings_of l.yielded;
      waiting_room : length l.fn.errands.items ≤ vec_capacity l.waiting;
      comings_room : length l.fn.errands.items ≤ vec_capacity l.comings;
    }
