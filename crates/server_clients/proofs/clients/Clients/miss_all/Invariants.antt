use Rattle.std.proofs.Common.{◌≡◌}
use Rattle.server_clients.specs.Clients.{AreMissed}
use Rattle.server_clients.proofs.clients.Clients.miss_all.Given as goal

-- those so far are told that no such controller is there
abbrev pub invariant-loop-one : goal.invariant-loop-one
invariant-loop-one g l =
    record {
      clients : AreMissed l.fn.self.now l.yielded l.fn.self.all l.self.all;
      moment : l.self.now ≡ l.fn.self.now;
    }
