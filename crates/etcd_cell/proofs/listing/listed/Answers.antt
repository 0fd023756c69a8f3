use Rattle.std.proofs.Common.{subst}
use Rattle.etcd_wire.specs.Answer.{IsListing, Tells}
use Rattle.etcd_cell.proofs.listing.listed.Goals as goal

pub returns-clause-unknown : goal.returns-clause-unknown
returns-clause-unknown c same ks =
    subst (λ body. Tells c.args.response.now.status body (λ _ j. IsListing j ks) → ⊥) c.as_slice.ensures.value (c.listed_of.ensures.unknown same ks)
