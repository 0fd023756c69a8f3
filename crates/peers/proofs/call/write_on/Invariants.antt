use Rattle.peers.specs.Exchange.{Sends}
use Rattle.peers.proofs.call.write_on.Given as goal

-- the writes so far were of a front
abbrev pub invariant-loop : goal.invariant-loop
invariant-loop g l = Sends (g.S.Write.contents l.fn.stream.inner) (g.S.Write.contents l.stream.inner) l.fn.exchange l.exchange
