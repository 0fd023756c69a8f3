use Rattle.std.proofs.Common.{◌≡◌}
use Rattle.jdf_server.specs.Beginning.{ServesOn}
use Rattle.jdf_server.proofs.server.Server.serve_pages.Given as goal

-- nothing changed
abbrev pub invariant-loop-one : goal.invariant-loop-one
invariant-loop-one g l =
    record {
      serves : ServesOn l.fn.self l.self;
      post : l.self.post ≡ l.fn.self.post;
    }
