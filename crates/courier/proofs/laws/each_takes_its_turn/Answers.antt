use Rattle.courier.proofs.Taking.{each-takes-its-turn}
use Rattle.courier.proofs.laws.each_takes_its_turn.Goals as goal

pub returns : goal.returns
returns c = each-takes-its-turn
