use Rattle.peers.specs.Calls.{Gives}
use Rattle.peers.proofs.client.write_on.Given as goal

-- the writes so far were of a front
abbrev pub invariant-loop : goal.invariant-loop
invariant-loop g l =
    Gives (g.S.Write.contents l.fn.stream.inner) (g.S.Write.contents l.stream.inner) l.fn.peer l.peer
