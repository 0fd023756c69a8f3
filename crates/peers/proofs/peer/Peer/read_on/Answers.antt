use Rattle.std.proofs.Common.{◌∙◌, sym}
use Rattle.peers.proofs.Reading.{ended, ended_empty, failed, none_came, none_yet, some_came}
use Rattle.peers.proofs.peer.Peer.read_on.Goals as goal

pub returns-in-Came-clause-ok : goal.returns-in-Came-clause-ok
returns-in-Came-clause-ok g c =
    some_came g.T.Read.remaining c.args.now c.args.wanted.now _ _ c.args.self.now _ c.read_from.new.self c.in_ok-read_from.field-0
    c.self.view_is c.in_ok-read_from.ensures.read c.in_ok-read_from.ensures.ok c.in-Came.is

pub returns-in-Again-clause-ok : goal.returns-in-Again-clause-ok
returns-in-Again-clause-ok g c =
    none_came g.T.Read.remaining c.args.now c.args.wanted.now _ _ c.args.self.now _ c.read_from.new.self c.in_ok-read_from.field-0
    c.self.view_is c.in_ok-read_from.ensures.read c.in_ok-read_from.ensures.ok c.in-Again.is

pub returns-in-NotYet-clause-ok : goal.returns-in-NotYet-clause-ok
returns-in-NotYet-clause-ok g c =
    none_yet g.T.Read.remaining c.args.now c.args.wanted.now _ _ c.args.self.now _ c.read_from.new.self c.in_ok-read_from.field-0
    c.self.view_is c.in_ok-read_from.ensures.read c.in_ok-read_from.ensures.ok c.in-NotYet.is

pub returns-in-Failed-clause-ok : goal.returns-in-Failed-clause-ok
returns-in-Failed-clause-ok g c =
    failed g.T.Read.remaining c.args.now c.args.wanted.now _ _ c.args.self.now _ c.close-in-Failed.new.self c.read_from.new.self
    c.in_ok-read_from.field-0 c.self.view_is c.in_ok-read_from.ensures.read c.in_ok-read_from.ensures.ok c.in-Failed.is
    c.close-in-Failed.ensures

pub returns-then-len-eq0-clause-ok : goal.returns-then-len-eq0-clause-ok
returns-then-len-eq0-clause-ok g c =
    ended_empty g.T.Read.remaining c.args.now c.args.wanted.now _ _ c.args.self.now _ c.close-then-len-eq0.new.self c.read_from.new.self
    c.in_ok-read_from.field-0 c.self.view_is c.in_ok-read_from.ensures.read c.in_ok-read_from.ensures.ok c.in-Ended.is
    (sym c.len.ensures ∙ c.if-len-eq0.true) c.close-then-len-eq0.ensures

pub returns-else-len-eq0-clause-ok : goal.returns-else-len-eq0-clause-ok
returns-else-len-eq0-clause-ok g c =
    ended g.T.Read.remaining c.args.now c.args.wanted.now _ _ c.args.self.now _ c.wait.new.self c.read_from.new.self
    c.in_ok-read_from.field-0 c.self.view_is c.in_ok-read_from.ensures.read c.in_ok-read_from.ensures.ok c.in-Ended.is c.wait.ensures
