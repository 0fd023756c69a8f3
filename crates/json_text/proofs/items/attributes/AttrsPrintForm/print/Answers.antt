use Rattle.std.proofs.Common.{◌∙◌, ◌∷◌, subst}
use Rattle.json.specs.Token.{key}
use Rattle.serde_json.specs.Data.{string}
use Rattle.json_text.specs.Printed.{data_tokens, IsAppended}
use Rattle.json_text.proofs.PrintedAttributes.{attrs_none, attrs_more, attrs_all, attrs_ordered}
use Rattle.json_text.proofs.PrintedObjects.{opened, closed, on_any}
use Rattle.json_text.proofs.items.attributes.AttrsPrintForm.print.Goals as goal

pub loop-name-init : goal.loop-name-init
loop-name-init c =
    attrs_none c.args.self.now _ c.args.out.now c.begin_object.new.self (c.into_iter-name-iterator.ensures.into_iter_gives ∙ c.iter-name-items.ensures.rest)
    (opened c.begin_object.result c.args.out.now c.begin_object.new.self c.begin_object.ensures c.in_ok-begin_object.ensures.ok)

pub loop-name-preserved : goal.loop-name-preserved
loop-name-preserved c =
    let new = c.print_text.new.out in
    let mid = c.loop-name.out in
    let named : IsAppended (key c.in-Some.name.now ∷ data_tokens (string c.in-Some.text.now)) mid new =
    subst (λ t. IsAppended (key c.in-Some.name.now ∷ data_tokens (string t)) mid new) c.as_str-in-loop-name.ensures.value (subst (λ k. IsAppended (key k ∷ data_tokens (string c.as_str-in-loop-name.result.now)) mid new) c.as_str.ensures.value c.in_ok-print_text.ensures) in
    attrs_more c.args.self.now _ _ c.in-Some.name.now c.in-Some.text.now c.args.out.now mid new c.loop-name.invariant c.in-Some.ensures.steps named c.as_str.ensures.valid c.as_str-in-loop-name.ensures.valid

pub returns : goal.returns
returns c =
    let all = attrs_all c.args.self.now _ c.args.out.now c.loop-name.out c.loop-name.invariant c.in-None.ensures.steps.0 in
    record {
      printed = closed c.end_object.result c.end_object.new.self all.shown c.end_object.ensures (attrs_ordered c.args.self.now c.iter-name-items.ensures.ordered);
      names = on_any c.end_object.result all.names;
      texts = on_any c.end_object.result all.texts;
    }
