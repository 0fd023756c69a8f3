use Rattle.master_core.proofs.OrderKept.{order_is_kept}
use Rattle.master_core.proofs.PartsKept.{order_keeps_spawns}
use Rattle.master_core.proofs.laws.an_order_changes_no_spawn.Goals as goal

pub returns-clause-kept : goal.returns-clause-kept
returns-clause-kept c = order_is_kept

pub returns-clause-spawns : goal.returns-clause-spawns
returns-clause-spawns c = order_keeps_spawns
