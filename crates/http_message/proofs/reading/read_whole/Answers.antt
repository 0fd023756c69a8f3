use Rattle.http_message.proofs.WholeRead.{ended, lost}
use Rattle.http_message.proofs.reading.read_whole.Goals as goal

pub returns-in-Refused-clause-unread : goal.returns-in-Refused-clause-unread
returns-in-Refused-clause-unread g c =
    let so_far = c.loop-whole.invariant in
    lost g.R.Read.remaining c.args.incoming.now.most c.loop-whole.incoming.most c.args.incoming.now.kind c.loop-whole.incoming.kind
    c.args.start c.args.reader.now c.loop-whole.reader c.loop-whole.incoming.bytes c.in-Refused.refused so_far.3 so_far.2 so_far.4
    c.in-Refused.ensures

pub returns-then-branch-eq0-clause-unread : goal.returns-then-branch-eq0-clause-unread
returns-then-branch-eq0-clause-unread g c =
    let so_far = c.loop-whole.invariant in
    ended g.R.Read.remaining c.args.incoming.now.most c.loop-whole.incoming.most c.args.incoming.now.kind c.loop-whole.incoming.kind
    c.args.start c.args.reader.now c.loop-whole.reader c.read_more.new.reader c.loop-whole.incoming.bytes c.read_more.new.incoming.bytes
    _ c.in-Wanted.wanted so_far.3 so_far.2 so_far.4 c.in-Wanted.ensures c.in_ok-read_more-in-Wanted.ensures.ok c.if-branch-eq0.true
