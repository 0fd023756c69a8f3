use Rattle.std.proofs.Common.{◌≡◌, subst}
use Rattle.std.specs.Prelude.{IfOk}
use Rattle.json.specs.Json.{Json}
use Rattle.etcd_wire.specs.Request.{text_of, transaction}
use Rattle.etcd_wire.proofs.request.swap_body.Goals as goal

pub returns-clause-text : goal.returns-clause-text
returns-clause-text c =
    subst (λ (j : Json). IfOk c.transaction.result (λ body. body.items ≡ text_of (transaction c.args.key.now c.args.revision.now j)))
    c.in_ok-success.ensures c.transaction.ensures.text
