use Rattle.std.proofs.Common.{◌≡◌, ◌∙◌, ◌+◌, ◌&&◌, false, map, drop, is_some, rules, sym, ap}
use Rattle.json.specs.Value.{members_view}
use Rattle.json_source.specs.Tree.{names_among}
use Rattle.json_source.proofs.Finding.{next_among, none_left}
use Rattle.json_source.proofs.tree_source.are_among.Goals as goal

pub returns-in_default : goal.returns-in_default
returns-in_default c =
    let names = map (λ n. n.now) c.args.names.now in
    let all = c.args.members.now in
    let next = next_among c.args.names.now all c.loop-name.name-index c.loop-name-item.result _ c.loop-name-test.true c.loop-name-item.is c.place_from.ensures.among in
    let none : is_some c.place_from.result ≡ false = search rules in
    sym (sym c.loop-name.invariant ∙ next ∙ ap (λ b. b && names_among names (members_view (drop (c.loop-name.name-index + 1) all))) none)

pub loop-name-preserved : goal.loop-name-preserved
loop-name-preserved c =
    let names = map (λ n. n.now) c.args.names.now in
    let all = c.args.members.now in
    let next = next_among c.args.names.now all c.loop-name.name-index c.loop-name-item.result _ c.loop-name-test.true c.loop-name-item.is c.place_from.ensures.among in
    sym (next ∙ ap (λ o. is_some o && names_among names (members_view (drop (c.loop-name.name-index + 1) all))) c.in-Some.is) ∙ c.loop-name.invariant

pub returns : goal.returns
returns c =
    let names = map (λ n. n.now) c.args.names.now in
    sym (sym c.loop-name.invariant ∙ none_left names c.args.members.now c.loop-name.name-index c.loop-name-test.false)
