use Rattle.std.proofs.Common.{◌≡◌}
use Rattle.server_clients.specs.Clients.{AreLetGo}
use Rattle.server_clients.proofs.clients.Clients.pass_over_all.Given as goal

-- those so far are let go
abbrev pub invariant-loop-one : goal.invariant-loop-one
invariant-loop-one g l =
    record {
      clients : AreLetGo l.yielded l.fn.self.all l.self.all;
      moment : l.self.now ≡ l.fn.self.now;
    }
