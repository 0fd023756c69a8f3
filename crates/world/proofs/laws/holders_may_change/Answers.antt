use Rattle.world.proofs.Shop.Changing.{holders_may_change}
use Rattle.world.proofs.laws.holders_may_change.Goals as goal

pub returns : goal.returns
returns c = holders_may_change
