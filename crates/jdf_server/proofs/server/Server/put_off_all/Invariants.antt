use Rattle.std.proofs.Common.{◌≡◌}
use Rattle.jdf_server.proofs.server.Server.put_off_all.Given as goal

-- the clients are as they were
abbrev pub invariant-loop-mark : goal.invariant-loop-mark
invariant-loop-mark g l = l.self.clients.all ≡ l.fn.self.clients.all
