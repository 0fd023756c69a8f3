use Rattle.peers.proofs.Exchanging.{rest_of, sent_some}
use Rattle.peers.proofs.exchange.Exchange.write_some.Goals as goal

pub returns-in-Ok : goal.returns-in-Ok
returns-in-Ok g c =
    let whole = rest_of c.as_slice-2.result.now c.self.inside.request.items c.self.inside.done c.as_slice-2.ensures.value in
    sent_some _ _ c.args.self.now _ c.in-Ok.count _ c.self.view_is whole c.in-Ok.ensures.bound c.in-Ok.ensures.bytes
