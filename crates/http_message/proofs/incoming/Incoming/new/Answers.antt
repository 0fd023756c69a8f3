use Rattle.std.proofs.Common.{rules}
use Rattle.http_message.proofs.Pushed.{nothing_came}
use Rattle.http_message.proofs.incoming.Incoming.new.Goals as goal

pub invariant_of-result : goal.invariant_of-result
invariant_of-result c = nothing_came c.args.most c.args.kind c.new.result.items (search rules)
