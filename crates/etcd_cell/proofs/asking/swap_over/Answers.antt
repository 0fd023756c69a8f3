use Rattle.std.proofs.Common.{◌≡◌, ◌∙◌, ap, refl, subst}
use Rattle.std.specs.Prelude.{Err, codes}
use Rattle.std.proofs.lemmas.Result.{IfErr-at_err}
use Rattle.etcd_cell.specs.Exchange.{IsUnheard}
use Rattle.etcd_cell.proofs.Exchanging.{asked_so}
use Rattle.etcd_cell.proofs.asking.swap_over.Goals as goal

pub returns-clause-unknown : goal.returns-clause-unknown
returns-clause-unknown g c same =
    subst (λ r. IsUnheard g.S.Read.remaining g.S.Write.contents c.args.stream.now c.post.new.stream r)
    (asked_so _ _ (codes "/v3/kv/txn") _ _ c.authority.ensures.value (c.as_slice.ensures.value ∙ c.in_ok-body.ensures.text))
    (c.in-Err.ensures.unknown (ap Err (IfErr-at_err (λ fault. c.in-Err.fault ≡ fault) same refl)))
