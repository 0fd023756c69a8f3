use Rattle.std.proofs.Common.{◌≡◌, Some}
use Rattle.server_clients.specs.Clients.{AreGivenBack}
use Rattle.server_clients.proofs.clients.Clients.give_back_all.Given as goal

-- those so far are put back
abbrev pub invariant-loop-one : goal.invariant-loop-one
invariant-loop-one g l =
    record {
      clients : AreGivenBack (Some l.path) l.yielded l.fn.self.all l.self.all;
      moment : l.self.now ≡ l.fn.self.now;
    }
