use Rattle.std.proofs.Common.{refl, ap, subst, List, ℕ}
use Rattle.std.specs.Prelude.{Err}
use Rattle.etcd_wire.specs.declared.no_answer.NoAnswer.{NoAnswer}
use Rattle.etcd_wire.proofs.Decoding.{has_no_response, to_end}
use Rattle.etcd_wire.specs.Response.{HasBody}
use Rattle.etcd_wire.proofs.Told.{err_same}
use Rattle.etcd_wire.proofs.response.response_in.Goals as goal

pub returns-in_default-clause-unknown : goal.returns-in_default-clause-unknown
returns-in_default-clause-unknown c same status body r = c.in_default.ensures.none refl status r.framing r.behind r.head

pub returns-in-Err-clause-unknown : goal.returns-in-Err-clause-unknown
returns-in-Err-clause-unknown c same status body r =
    let none = c.in-Err.ensures.unknown (ap (λ (e : NoAnswer). Err e) (err_same _ _ same)) in
    has_no_response _ _ _ _ _ _ _ _ c.in-Some.ensures.some
    (subst (λ behind. (bytes : List ℕ) → HasBody c.in-Some.head.framing behind bytes → ⊥) (to_end c.in-Some.head.size c.args.all.now) none)
    r.head r.carries
