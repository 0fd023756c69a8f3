use Rattle.spawn.proofs.FirstHolder.{claims_first}
use Rattle.spawn.proofs.tables.holding.before_holder.Goals as goal

pub returns : goal.returns
returns c = claims_first c.args.ticket.now.rows c.args.node.now c.args.id.now c.args.records.now c.before_copy-free.result c.before_above.result c.before_copy-free.ensures c.before_above.ensures
