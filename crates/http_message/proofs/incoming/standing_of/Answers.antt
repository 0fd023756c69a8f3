use Rattle.std.proofs.Common.{subst}
use Rattle.http_message.specs.Incoming.{IsFound}
use Rattle.http_message.proofs.Making.{lost_never}
use Rattle.http_message.proofs.incoming.standing_of.Goals as goal

pub returns-in-Never : goal.returns-in-Never
returns-in-Never c =
    lost_never c.args.most c.args.kind c.args.bytes.now
    (subst (λ look. IsFound c.args.most c.args.kind c.args.bytes.now look) c.in-Never.is c.requires)
