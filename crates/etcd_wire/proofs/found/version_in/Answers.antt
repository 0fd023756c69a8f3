use Rattle.std.proofs.Common.{ap}
use Rattle.std.specs.Prelude.{Err}
use Rattle.etcd_wire.specs.declared.no_answer.NoAnswer.{NoAnswer}
use Rattle.etcd_wire.proofs.Told.{err_same}
use Rattle.etcd_wire.proofs.found.version_in.Goals as goal

pub returns-in-Err-clause-unknown : goal.returns-in-Err-clause-unknown
returns-in-Err-clause-unknown c same v version = c.in-Err.ensures.unknown (ap (λ (e : NoAnswer). Err e) (err_same _ _ same)) v.bytes version.1
