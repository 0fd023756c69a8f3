use Rattle.std.proofs.Common.{◌∙◌}
use Rattle.spawn.proofs.Holdings.{cloned_in}
use Rattle.spawn.proofs.tables.holders.HoldersClone.clone.Goals as goal

pub returns : goal.returns
returns c = record { cases = cloned_in c.self.inside.spawns.entries c.in_ok-spawns.spawns.entries c.in_ok-spawns.ensures.cases ∙ c.self.view_is }
