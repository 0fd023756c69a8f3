use Rattle.std.proofs.Common.{refl, subst}
use Rattle.json.specs.Json.{Json, document}
use Rattle.etcd_wire.specs.Answer.{Answers}
use Rattle.etcd_wire.proofs.Told.{one_json}
use Rattle.etcd_wire.proofs.found.held_of.Goals as goal

pub returns-in_default-clause-unknown : goal.returns-in_default-clause-unknown
returns-in_default-clause-unknown c same found t =
    c.in_default.ensures.none refl t.revision (subst (λ (j : Json). Answers j t.revision) (one_json (document c.args.body.now) t.json _ t.reads c.in_ok-answer.ensures.ok.1) t.answers)
