use Rattle.courier.proofs.Running.{after_hearing-waits-anew}
use Rattle.courier.proofs.laws.heard_waits_anew.Goals as goal

pub returns : goal.returns
returns c = after_hearing-waits-anew
