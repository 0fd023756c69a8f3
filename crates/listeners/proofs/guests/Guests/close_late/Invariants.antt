use Rattle.std.proofs.Common.{◌≡◌, ℕ, ◌++◌}
use Rattle.slab.specs.Slab.{entries, get}
use Rattle.listeners.specs.Guests.{is_late}
use Rattle.listeners.proofs.Late.{keys_where, without}
use Rattle.listeners.proofs.guests.Guests.close_late.Given as goal

-- the late ones so far, and those among the others, are all of them
abbrev pub invariant-loop-key : goal.invariant-loop-key
invariant-loop-key g l =
    record {
      next : (goal.iterator-loop-key g).can_next l.key-iterator;
      finite : (goal.iterator-loop-key g).is_finite l.key-iterator;
      keys : l.late.items ++ keys_where (is_late l.now) l.key-iterator ≡ keys_where (is_late l.now) (entries l.fn.self.held);
    }

-- those so far are let go
abbrev pub invariant-loop-key-2 : goal.invariant-loop-key-2
invariant-loop-key-2 g l =
    record {
      held : (k : ℕ) → get l.self.held k ≡ without l.yielded l.fn.self.held k;
      rest : l.self ≡ record l.fn.self { held = l.self.held };
    }
