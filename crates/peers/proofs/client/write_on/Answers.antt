use Rattle.peers.proofs.Giving.{gives_none, writes_end, writes_more}
use Rattle.peers.proofs.client.write_on.Goals as goal

pub loop-init : goal.loop-init
loop-init g c = gives_none (g.S.Write.contents c.args.stream.now.inner) c.args.peer.now

pub returns-in_default : goal.returns-in_default
returns-in_default g c =
    writes_end g.S.Write.contents c.args.now c.args.stream.now c.loop.stream c.on_writable.new.stream c.args.peer.now c.loop.peer
    c.on_writable.new.self c.on_writable.result c.loop.invariant c.on_writable.ensures

pub loop-preserved : goal.loop-preserved
loop-preserved g c =
    writes_more g.S.Write.contents c.args.now c.args.stream.now c.loop.stream c.on_writable.new.stream c.args.peer.now c.loop.peer
    c.on_writable.new.self c.on_writable.result c.loop.invariant c.on_writable.ensures c.in-Again.is
