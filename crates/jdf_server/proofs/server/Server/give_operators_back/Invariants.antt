use Rattle.std.proofs.Common.{◌≡◌}
use Rattle.jdf_server.proofs.server.Server.give_operators_back.Given as goal

-- the clients are as they were
abbrev pub invariant-loop-one : goal.invariant-loop-one
invariant-loop-one g l =
    (l.self.clients.all ≡ l.fn.self.clients.all) × ((l.self.clients.now ≡ l.fn.self.clients.now) × (l.self.lines ≡ l.fn.self.lines))
