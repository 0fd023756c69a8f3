use Rattle.std.proofs.Common.{◌∙◌, inl, inr, arith, sym}
use Rattle.std.proofs.lemmas.Bool.{true≢false}
use Rattle.std.proofs.lemmas.Result.{IfOk-weaker}
use Rattle.std.proofs.lemmas.Str.Pattern.{contains_char}
use Rattle.jdf_net.proofs.serve_command.with_host.Goals as goal

pub returns-then-contains : goal.returns-then-contains
returns-then-contains c =
    let has = contains_char 58 c.args.address.now c.contains.result c.contains.ensures.cases (omega arith) in
    IfOk-weaker c.from_str.result _ _ (λ at is. inl (has.0 c.if-contains.true, is)) c.from_str.ensures.ok

pub returns-else-contains : goal.returns-else-contains
returns-else-contains c =
    let has = contains_char 58 c.args.address.now c.contains.result c.contains.ensures.cases (omega arith) in
    IfOk-weaker c.format.result _ _ (λ at is. inr ((λ h. true≢false (sym (has.1 h.0 h.1 h.2) ∙ c.if-contains.false)), is)) c.format.ensures.ok
