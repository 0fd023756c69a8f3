use Rattle.std.proofs.Common.{ℕ, List, subst}
use Rattle.etcd_wire.specs.Response.{Responds}
use Rattle.etcd_cell.proofs.Exchanging.{unheard}
use Rattle.etcd_cell.proofs.exchange.post.Goals as goal

pub returns-in-Ok-clause-unknown : goal.returns-in-Ok-clause-unknown
returns-in-Ok-clause-unknown g c same =
    unheard g.S.Read.remaining g.S.Write.contents _ _ _ c.in-Ok.all.items c.in-Ok.ensures.ok
    (subst (λ l. (status : ℕ) (body : List ℕ) → Responds l status body → ⊥) c.as_slice.ensures.value (c.response_in.ensures.unknown same))
