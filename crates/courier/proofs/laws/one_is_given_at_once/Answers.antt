use Rattle.courier.proofs.Running.{one-at-once}
use Rattle.courier.proofs.laws.one_is_given_at_once.Goals as goal

pub returns : goal.returns
returns c = one-at-once
