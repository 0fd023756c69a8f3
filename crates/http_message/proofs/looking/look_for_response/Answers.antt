use Rattle.http_message.proofs.Heads.{whole_response}
use Rattle.http_message.proofs.looking.look_for_response.Goals as goal

pub returns-in-Ok-Complete-clause-head : goal.returns-in-Ok-Complete-clause-head
returns-in-Ok-Complete-clause-head c =
    let bytes = c.args.bytes.now in
    let spans = c.parse_response.new.headers in
    whole_response c.args.most bytes spans c.in-Ok-Complete.field-0 c.in-Ok-Complete.head c.says.result
    c.in-Ok-Complete.field-0-is c.parse_response.auto.headers c.in-Ok-Complete.ensures.within
    c.in-Ok-Complete.ensures.complete c.says.ensures.value
