use Rattle.std.proofs.Common.{◌∙◌, None, Some, sym}
use Rattle.std.specs.Prelude.{codes}
use Rattle.etcd_place.proofs.Below.{behind_name, gave_none, in_whole, not_named, outside, read_key, stripped}
use Rattle.etcd_place.proofs.etcd_folder.EtcdFolder.rest_of.Goals as goal

pub returns-in_err-text : goal.returns-in_err-text
returns-in_err-text c =
    let unread = read_key _ c.args.key.now None c.from_utf8.result c.in_err-text.ensures.value c.from_utf8.ensures.cases in
    gave_none _ c.from_residual.result c.from_residual.ensures (λ rest below. unread below.0)

pub returns-in_err-rest : goal.returns-in_err-rest
returns-in_err-rest c =
    let read = read_key _ c.args.key.now (Some c.in_ok-text.text) c.from_utf8.result c.in_ok-text.ensures.value c.from_utf8.ensures.cases in
    let lacks = stripped (codes "toarnbif/") c.in_ok-text.text.now None c.in_err-rest.ensures.cases in
    gave_none _ c.from_residual-in_err-rest.result c.from_residual-in_err-rest.ensures (outside c.args.self.now.name.now c.args.key.now (λ rest is. lacks rest (read.0 ∙ is)))

pub returns-then-is_empty : goal.returns-then-is_empty
returns-then-is_empty c =
    let read = read_key _ c.args.key.now (Some c.in_ok-text.text) c.from_utf8.result c.in_ok-text.ensures.value c.from_utf8.ensures.cases in
    let front = stripped (codes "toarnbif/") c.in_ok-text.text.now (Some c.in_ok-rest.rest) c.in_ok-rest.ensures.cases in
    in_whole c.args.self.now.name.now c.args.key.now c.in_ok-rest.rest.now (sym c.is_empty.ensures ∙ c.if-is_empty.true) read.1 (sym read.0 ∙ front)

pub returns-in_err-behind : goal.returns-in_err-behind
returns-in_err-behind c =
    let name = c.args.self.now.name.now in
    let read = read_key _ c.args.key.now (Some c.in_ok-text.text) c.from_utf8.result c.in_ok-text.ensures.value c.from_utf8.ensures.cases in
    let front = stripped (codes "toarnbif/") c.in_ok-text.text.now (Some c.in_ok-rest.rest) c.in_ok-rest.ensures.cases in
    gave_none _ c.from_residual-in_err-behind.result c.from_residual-in_err-behind.ensures
    (not_named name c.args.key.now c.in_ok-rest.rest.now (sym c.is_empty.ensures ∙ c.if-is_empty.false) (sym read.0 ∙ front) (stripped name c.in_ok-rest.rest.now None c.in_err-behind.ensures.cases))

pub returns : goal.returns
returns c =
    let name = c.args.self.now.name.now in
    let read = read_key _ c.args.key.now (Some c.in_ok-text.text) c.from_utf8.result c.in_ok-text.ensures.value c.from_utf8.ensures.cases in
    let front = stripped (codes "toarnbif/") c.in_ok-text.text.now (Some c.in_ok-rest.rest) c.in_ok-rest.ensures.cases in
    behind_name name c.args.key.now c.in_ok-rest.rest.now c.in_ok-behind.behind.now c.strip_prefix-3.result (sym c.is_empty.ensures ∙ c.if-is_empty.false) read.1 (sym read.0 ∙ front)
    (stripped name c.in_ok-rest.rest.now (Some c.in_ok-behind.behind) c.in_ok-behind.ensures.cases) c.strip_prefix-3.ensures.cases
