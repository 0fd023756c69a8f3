use Rattle.http_message.proofs.Making.{lost_by_head, whole_there}
use Rattle.http_message.proofs.incoming.standing_behind.Goals as goal

pub returns-in-Err : goal.returns-in-Err
returns-in-Err c =
    lost_by_head c.args.most c.args.kind c.args.bytes.now c.args.told.now c.in-Err.refused c.requires c.in-Err.is

pub returns : goal.returns
returns c =
    whole_there c.args.most c.args.kind c.args.bytes.now c.args.told.now c.in-Ok.length c.requires c.in-Ok.is
    c.if-bytes-end.false
