use Rattle.std.proofs.Common.{◌∙◌, ◌&&◌, map, sym, ap}
use Rattle.serde_json.specs.View.{members_view}
use Rattle.json_source.specs.Read.{are_among}
use Rattle.json_source.proofs.MemberLemmas.{are_among-cons}
use Rattle.json_source.proofs.value_source.are_among.Goals as goal

pub returns-then-not-is_among : goal.returns-then-not-is_among
returns-then-not-is_among c =
    let step = are_among-cons c.args.names.now _ _ (c.in-Some.name.now, c.in-Some.field-0-1.now) _ _ c.in-Some.ensures.steps c.as_str.ensures.value c.is_among.ensures in
    sym (sym c.loop-name.invariant ∙ step ∙ ap (λ b. b && are_among (map (λ n. n.now) c.args.names.now) (members_view c.next.new.self)) c.if-not-is_among.true)

pub loop-name-preserved : goal.loop-name-preserved
loop-name-preserved c =
    let step = are_among-cons c.args.names.now _ _ (c.in-Some.name.now, c.in-Some.field-0-1.now) _ _ c.in-Some.ensures.steps c.as_str.ensures.value c.is_among.ensures in
    sym (sym c.loop-name.invariant ∙ step ∙ ap (λ b. b && are_among (map (λ n. n.now) c.args.names.now) (members_view c.next.new.self)) c.if-not-is_among.false)
