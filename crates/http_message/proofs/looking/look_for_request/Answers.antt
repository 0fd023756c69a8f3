use Rattle.http_message.proofs.Heads.{whole_request}
use Rattle.http_message.proofs.looking.look_for_request.Goals as goal

pub returns-in-Ok-Complete-clause-head : goal.returns-in-Ok-Complete-clause-head
returns-in-Ok-Complete-clause-head c =
    let bytes = c.args.bytes.now in
    let spans = c.parse_request.new.headers in
    whole_request c.args.methods c.args.most bytes spans c.in-Ok-Complete.field-0 c.in-Ok-Complete.head c.of.result.now
    c.method_of-method.result c.says.result c.expects_continue.result
    c.in-Ok-Complete.field-0-is c.parse_request.auto.headers c.in-Ok-Complete.ensures.within
    c.in-Ok-Complete.ensures.complete c.of.ensures c.method_of-method.ensures
    c.says.ensures.value c.expects_continue.ensures
