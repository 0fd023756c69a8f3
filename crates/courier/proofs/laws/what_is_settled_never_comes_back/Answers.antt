use Rattle.courier.proofs.Running.{none-comes-back}
use Rattle.courier.proofs.laws.what_is_settled_never_comes_back.Goals as goal

pub returns : goal.returns
returns c = none-comes-back
