use Rattle.courier.proofs.Taking.{what-is-after_hearing-is-given}
use Rattle.courier.proofs.laws.what_is_heard_is_given.Goals as goal

pub returns : goal.returns
returns c = what-is-after_hearing-is-given
