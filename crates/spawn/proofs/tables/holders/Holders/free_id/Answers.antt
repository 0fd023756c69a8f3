use Rattle.std.proofs.Common.{None}
use Rattle.spawn.proofs.Holdings.{removed_in}
use Rattle.spawn.proofs.tables.holders.Holders.free_id.Goals as goal

pub returns : goal.returns
returns c = removed_in c.as_str.result.now c.args.id.now None c.self.inside.spawns c.remove.new.self c.args.self.now c.as_str.ensures.value c.self.view_is c.remove.ensures.updates
