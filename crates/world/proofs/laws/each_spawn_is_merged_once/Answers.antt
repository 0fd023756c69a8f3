use Rattle.world.proofs.Shop.Once.{each_is_merged_once}
use Rattle.world.proofs.laws.each_spawn_is_merged_once.Goals as goal

pub returns : goal.returns
returns c = each_is_merged_once
