use Rattle.std.proofs.Common.{subst}
use Rattle.etcd_wire.specs.Answer.{IsFound, Tells}
use Rattle.etcd_cell.proofs.asking.found.Goals as goal

pub returns-clause-unknown : goal.returns-clause-unknown
returns-clause-unknown c same found =
    subst (λ body. Tells c.args.response.now.status body (λ _ j. IsFound j found) → ⊥) c.as_slice.ensures.value (c.held_of.ensures.unknown same found)
