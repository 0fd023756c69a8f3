use Rattle.http_message.proofs.Making.{found_by}
use Rattle.http_message.proofs.incoming.found_in.Goals as goal

pub returns : goal.returns
returns c =
    found_by c.args.most c.args.kind c.args.bytes.now c.look_for_head.result c.look_for_head.ensures.head c.look_for_head.ensures.bound
    (λ is h b. c.look_for_head.ensures.part is h b) (λ is more h b. c.look_for_head.ensures.never is more h b)
    (λ many is. c.look_for_head.ensures.full many is)
