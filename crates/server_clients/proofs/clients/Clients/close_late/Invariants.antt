use Rattle.std.proofs.Common.{◌≡◌, ℕ, ◌++◌}
use Rattle.slab.specs.Slab.{entries, get}
use Rattle.listeners.proofs.Late.{keys_where, without}
use Rattle.server_clients.specs.Clients.{is_overdue}
use Rattle.server_clients.proofs.clients.Clients.close_late.Given as goal

-- the late ones so far, and those among the others, are all of them
abbrev pub invariant-loop-key : goal.invariant-loop-key
invariant-loop-key g l =
    record {
      next : (goal.iterator-loop-key g).can_next l.key-iterator;
      finite : (goal.iterator-loop-key g).is_finite l.key-iterator;
      keys : l.late.items ++ keys_where (is_overdue l.fn.self.now) l.key-iterator ≡ keys_where (is_overdue l.fn.self.now) (entries l.fn.self.all);
    }

-- those so far are let go
abbrev pub invariant-loop-key-2 : goal.invariant-loop-key-2
invariant-loop-key-2 g l =
    record {
      all : (k : ℕ) → get l.self.all k ≡ without l.yielded l.fn.self.all k;
      moment : l.self.now ≡ l.fn.self.now;
    }
