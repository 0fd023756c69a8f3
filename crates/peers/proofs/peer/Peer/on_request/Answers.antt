use Rattle.peers.proofs.Reading.{handed_out, read_where, refused_then, wanted_still}
use Rattle.peers.proofs.peer.Peer.on_request.Goals as goal

pub read_on-requires-clause-wanted : goal.read_on-requires-clause-wanted
read_on-requires-clause-wanted g c =
    wanted_still c.args.self.now _ c.ask.new.self c.in-Wanted.wanted c.self.view_is c.in-Wanted.ensures c.in_ok-ask-in-Wanted.ensures.ok

pub returns-in-Refused-clause-ok : goal.returns-in-Refused-clause-ok
returns-in-Refused-clause-ok g c =
    refused_then g.T.Read.remaining c.args.now _ c.args.self.now _ c.wait.new.self c.in-Refused.refused c.self.view_is c.in-Refused.ensures
    c.wait.ensures

pub returns-in-Whole-clause-ok : goal.returns-in-Whole-clause-ok
returns-in-Whole-clause-ok g c =
    handed_out g.T.Read.remaining c.args.now _ c.args.self.now c.hand_out.new.self c.hand_out.result c.hand_out.ensures

pub returns-in_ok-ask-in-Wanted-clause-ok : goal.returns-in_ok-ask-in-Wanted-clause-ok
returns-in_ok-ask-in-Wanted-clause-ok g c =
    read_where g.T.Read.remaining c.args.now _ _ c.args.self.now _ c.ask.new.self _ c.in-Wanted.wanted c.read_on.result c.self.view_is
    c.in-Wanted.ensures c.in_ok-ask-in-Wanted.ensures.ok c.read_on.ensures.ok
