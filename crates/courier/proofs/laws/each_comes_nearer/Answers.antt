use Rattle.courier.proofs.Running.{each-comes-nearer}
use Rattle.courier.proofs.laws.each_comes_nearer.Goals as goal

pub returns : goal.returns
returns c = each-comes-nearer
