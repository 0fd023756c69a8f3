use Rattle.world.proofs.Shop.Changing.{no_two_may_change_one}
use Rattle.world.proofs.laws.no_two_may_change_one.Goals as goal

pub returns : goal.returns
returns c = no_two_may_change_one
