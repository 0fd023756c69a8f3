use Rattle.spawn.proofs.FirstHolder.{got_first}
use Rattle.spawn.proofs.Holding.{claims_at}
use Rattle.spawn.proofs.tables.holding.holding_record.Goals as goal

pub returns : goal.returns
returns c =
    got_first (claims_at c.args.ticket.now.rows c.args.id.now c.args.node.now) c.get.result c.args.records.now c.before_holder.result c.get.ensures.lookup.0 c.get.ensures.lookup.1 c.before_holder.ensures
