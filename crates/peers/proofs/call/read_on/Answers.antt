use Rattle.peers.proofs.Exchanging.{reads_again, reads_behind, receives_none}
use Rattle.peers.proofs.call.read_on.Goals as goal

pub loop-init : goal.loop-init
loop-init g c = receives_none (g.S.Read.remaining c.args.stream.now.inner) c.args.exchange.now

pub loop-preserved : goal.loop-preserved
loop-preserved g c = reads_again _ _ _ _ c.loop.exchange _ c.read_some.result c.loop.invariant c.read_some.ensures c.in-Again.is

pub returns-in_default : goal.returns-in_default
returns-in_default g c = reads_behind _ _ _ _ c.loop.exchange _ c.read_some.result c.loop.invariant c.read_some.ensures
