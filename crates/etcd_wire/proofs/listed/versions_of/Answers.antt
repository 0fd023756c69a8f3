use Rattle.std.proofs.Common.{ap, subst, sym}
use Rattle.std.specs.Prelude.{Err}
use Rattle.json.specs.Value.{value_view}
use Rattle.etcd_wire.specs.Answer.{IsKeyVersion}
use Rattle.etcd_wire.specs.declared.no_answer.NoAnswer.{NoAnswer}
use Rattle.etcd_wire.proofs.Listing.{next_version, version_at}
use Rattle.etcd_wire.proofs.Told.{err_same}
use Rattle.etcd_wire.proofs.listed.versions_of.Goals as goal

pub loop-pair-preserved : goal.loop-pair-preserved
loop-pair-preserved c =
    next_version value_view c.args.pairs.now c.loop-pair.pair-index c.pair-item.result c.loop-pair.versions.items _ c.in-Ok.version c.loop-pair-test.true
    (subst (λ v. IsKeyVersion (value_view v) c.in-Ok.version) c.pair-item.is c.in-Ok.ensures.ok) c.loop-pair.invariant c.in_ok-push-in-Ok.ensures

pub returns-in-Err-clause-unknown : goal.returns-in-Err-clause-unknown
returns-in-Err-clause-unknown c same ks all =
    let found = version_at value_view c.args.pairs.now c.loop-pair.pair-index c.pair-item.result ks c.loop-pair-test.true all in
    c.in-Err.ensures.unknown (ap (λ (e : NoAnswer). Err e) (err_same _ _ same)) found.0 (subst (λ v. IsKeyVersion (value_view v) found.0) (sym c.pair-item.is) found.1)
