use Rattle.std.proofs.Common.{◌≡◌, ◌∙◌, ap, refl, subst}
use Rattle.std.specs.Prelude.{Err, codes, ◌==◌}
use Rattle.std.proofs.lemmas.Result.{IfErr-at_err}
use Rattle.etcd_cell.specs.Exchange.{Hears, IsUnheard}
use Rattle.etcd_cell.proofs.Exchanging.{asked_so, tells_on}
use Rattle.etcd_cell.proofs.compacting.compact_over.Goals as goal

pub returns-in-Ok-clause-ok : goal.returns-in-Ok-clause-ok
returns-in-Ok-clause-ok g c =
    tells_on g.S.Read.remaining g.S.Write.contents _ _ _ c.in-Ok.response.status c.in-Ok.response.body.items
    (λ status body. (c.in-Ok.response.status == 200) ≡ (status == 200))
    (subst (λ r. Hears g.S.Read.remaining g.S.Write.contents c.args.stream.now c.post.new.stream r (λ s b. (s ≡ c.in-Ok.response.status) × (b ≡ c.in-Ok.response.body.items)))
    (asked_so _ _ (codes "/v3/kv/compaction") _ _ c.authority.ensures.value (c.as_slice.ensures.value ∙ c.in_ok-body.ensures.text))
    c.in-Ok.ensures.ok)
    refl

pub returns-clause-unknown : goal.returns-clause-unknown
returns-clause-unknown g c same =
    subst (λ r. IsUnheard g.S.Read.remaining g.S.Write.contents c.args.stream.now c.post.new.stream r)
    (asked_so _ _ (codes "/v3/kv/compaction") _ _ c.authority.ensures.value (c.as_slice.ensures.value ∙ c.in_ok-body.ensures.text))
    (c.in-Err.ensures.unknown (ap Err (IfErr-at_err (λ fault. c.in-Err.fault ≡ fault) same refl)))
