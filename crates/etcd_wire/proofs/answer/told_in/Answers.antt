use Rattle.std.proofs.Common.{refl}
use Rattle.etcd_wire.proofs.answer.told_in.Goals as goal

pub returns-in_default-clause-unknown : goal.returns-in_default-clause-unknown
returns-in_default-clause-unknown c same n answers either = c.in_default.ensures.none refl n answers
