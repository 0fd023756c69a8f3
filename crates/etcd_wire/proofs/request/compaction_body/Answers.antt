use Rattle.std.proofs.Common.{◌≡◌, subst}
use Rattle.std.specs.Prelude.{IfOk}
use Rattle.json.specs.Json.{Json}
use Rattle.etcd_wire.specs.Request.{text_of}
use Rattle.etcd_wire.proofs.request.compaction_body.Goals as goal

pub returns-clause-text : goal.returns-clause-text
returns-clause-text c =
    subst (λ (j : Json). IfOk c.to_vec.result (λ body. body.items ≡ text_of j)) c.in_ok-body.ensures.value c.to_vec.ensures.text
