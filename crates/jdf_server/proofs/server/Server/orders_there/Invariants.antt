use Rattle.std.proofs.Common.{◌≡◌}
use Rattle.jdf_server.proofs.server.Server.orders_there.Given as goal

-- the clients are as they were
abbrev pub invariant-loop-order : goal.invariant-loop-order
invariant-loop-order g l = l.self.clients.all ≡ l.fn.self.clients.all
