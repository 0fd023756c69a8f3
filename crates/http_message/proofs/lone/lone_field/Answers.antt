use Rattle.http_message.proofs.Heads.{lone_there}
use Rattle.http_message.proofs.lone.lone_field.Goals as goal

pub returns-in-Ok-Complete : goal.returns-in-Ok-Complete
returns-in-Ok-Complete c =
    lone_there c.args.head.now c.args.name.now c.parse_request.new.headers c.in-Ok-Complete.field-0 c.in-Ok-Complete.found _ _
    c.in-Ok-Complete.field-0-is c.parse_request.auto.headers c.in-Ok-Complete.ensures.within c.in-Ok-Complete.ensures.complete
    c.find_named.ensures c.lone_value.ensures
