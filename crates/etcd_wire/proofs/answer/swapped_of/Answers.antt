use Rattle.std.proofs.Common.{◌≡◌, arith}
use Rattle.etcd_wire.proofs.Told.{tells_swap}
use Rattle.etcd_wire.proofs.answer.swapped_of.Goals as goal

pub returns : goal.returns
returns c =
    let ok : c.args.status ≡ 200 = omega (arith, c.if-status-ne200.false) in
    tells_swap c.args.status c.args.body.now _ c.told_in.result ok c.in-Ok.ensures.ok.0 c.in-Ok.ensures.ok.1 c.told_in.ensures.made c.told_in.ensures.other c.told_in.ensures.unknown
