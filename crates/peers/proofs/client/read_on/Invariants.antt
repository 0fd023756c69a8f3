use Rattle.std.proofs.Common.{◌≡◌, true}
use Rattle.peers.specs.Peer.{is_quiet}
use Rattle.peers.proofs.Coming.{Went}
use Rattle.peers.proofs.client.read_on.Given as goal

-- what the calls so far left, and that none was made in a phase that reads nothing
abbrev pub invariant-loop : goal.invariant-loop
invariant-loop g l = Went g.S.Read.remaining l.fn.stream l.stream l.fn.peer l.peer × (is_quiet l.fn.peer.phase ≡ true → l.counter ≡ 0)
