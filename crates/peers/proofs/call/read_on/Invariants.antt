use Rattle.peers.specs.Exchange.{Receives}
use Rattle.peers.proofs.call.read_on.Given as goal

-- so much came of the response so far
abbrev pub invariant-loop : goal.invariant-loop
invariant-loop g l = Receives (g.S.Read.remaining l.fn.stream.inner) (g.S.Read.remaining l.stream.inner) l.fn.exchange l.exchange
