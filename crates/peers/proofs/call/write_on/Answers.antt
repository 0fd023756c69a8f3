use Rattle.std.proofs.Common.{false}
use Rattle.peers.proofs.Exchanging.{sends_more, sends_none, sends_then}
use Rattle.peers.proofs.call.write_on.Goals as goal

pub loop-init : goal.loop-init
loop-init g c = sends_none (g.S.Write.contents c.args.stream.now.inner) c.args.exchange.now

pub loop-preserved : goal.loop-preserved
loop-preserved g c = sends_more _ _ _ _ c.loop.exchange _ c.loop.invariant c.write_some.ensures

pub returns-then-not-write_some : goal.returns-then-not-write_some
returns-then-not-write_some g c =
    sends_then _ _ _ c.write_some.new.self _ false (sends_more _ _ _ _ c.loop.exchange _ c.loop.invariant c.write_some.ensures) c.set_writing.ensures
