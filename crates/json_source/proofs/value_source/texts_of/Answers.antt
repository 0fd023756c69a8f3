use Rattle.std.proofs.Common.{◌∙◌, sym, ap}
use Rattle.serde_json.specs.View.{members_view, view}
use Rattle.json_source.proofs.Pairs.{no_text_left, one_text_more, texts_from, values_in_order}
use Rattle.json_source.proofs.value_source.texts_of.Goals as goal

pub loop-name-preserved : goal.loop-name-preserved
loop-name-preserved c =
    one_text_more c.loop-name.pairs.items _ (c.as_str-in-loop-name.result, c.in-Some-as_str.text) (members_view c.next.new.self) _ (view c.in-Some.value.now) c.in_ok-push.ensures.items c.as_str-in-loop-name.ensures.value
    (sym c.in-Some-as_str.ensures)
    ∙ ap (λ es. texts_from c.loop-name.pairs.items (members_view es)) (sym c.in-Some.ensures.steps) ∙ c.loop-name.invariant

pub returns-clause-order : goal.returns-clause-order
returns-clause-order c =
    let all = no_text_left c.loop-name.pairs.items _ (ap (λ es. texts_from c.loop-name.pairs.items (members_view es)) (sym c.in-None.ensures.steps.0) ∙ c.loop-name.invariant) in
    values_in_order c.args.members.now.entries _ all c.len.ensures.ordered
