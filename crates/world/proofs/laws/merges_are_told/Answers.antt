use Rattle.world.proofs.Shop.MergesTold.{merges_are_told}
use Rattle.world.proofs.laws.merges_are_told.Goals as goal

pub returns : goal.returns
returns c = merges_are_told
