use Rattle.std.proofs.Common.{◌≡◌, ◌∙◌, ap, subst}
use Rattle.std.specs.Prelude.{IfOk, codes}
use Rattle.json.specs.Json.{Json}
use Rattle.json.specs.Value.{value_view}
use Rattle.etcd_wire.specs.Request.{comparison, one, single, text_of, transaction, triple}
use Rattle.etcd_wire.proofs.request.transaction.Goals as goal

pub returns-clause-text : goal.returns-clause-text
returns-clause-text c =
    let compare = c.in_ok-one.ensures ∙ ap one c.in_ok-compare.ensures in
    let look = c.in_ok-one-3.ensures ∙ ap one (c.in_ok-look.ensures ∙ ap (single (codes "request_range")) c.in_ok-range.ensures) in
    let whole : (x y z : Json) → Json = λ x y z. triple (codes "compare") x (codes "success") y (codes "failure") z in
    let is : value_view c.in_ok-whole.whole ≡ transaction c.args.key.now c.args.revision.now (value_view c.args.success) =
    c.in_ok-whole.ensures
    ∙ (ap (λ x. whole x (value_view c.in_ok-one-2.field-0) (value_view c.in_ok-one-3.field-0)) compare
    ∙ (ap (λ y. whole (one (comparison c.args.key.now c.args.revision.now)) y (value_view c.in_ok-one-3.field-0)) c.in_ok-one-2.ensures
    ∙ ap (whole (one (comparison c.args.key.now c.args.revision.now)) (one (value_view c.args.success))) look)) in
    subst (λ (j : Json). IfOk c.to_vec.result (λ body. body.items ≡ text_of j)) is c.to_vec.ensures.text
