use Rattle.courier.proofs.Running.{delays-double}
use Rattle.courier.proofs.laws.delays_double.Goals as goal

pub returns : goal.returns
returns c = delays-double
