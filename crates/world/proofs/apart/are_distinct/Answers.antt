use Rattle.std.proofs.Common.{◌≡◌, ◌∙◌, ◌+◌, ◌&&◌, ◌<◌, ℕ, List, Bool, not, drop, get_or, length, sym, ap}
use Rattle.std.proofs.lemmas.List.{drop_more, take_rest}
use Rattle.ticket_items.specs.Ids as ids
use Rattle.world.proofs.apart.are_distinct.Goals as goal

-- what is left is distinct where the next isn't among those behind it, and those are
distinct_more : (names : List (List ℕ)) (i : ℕ) (d : List ℕ) (b : Bool) → i < length names → b ≡ ids.mem (get_or names i d) (drop (i + 1) names)
    → ids.are_distinct (drop i names) ≡ (not b && ids.are_distinct (drop (i + 1) names))
distinct_more names i d b within e =
    ap ids.are_distinct (drop_more names i d within) ∙ ap (λ c. not c && ids.are_distinct (drop (i + 1) names)) (sym e)

pub returns-then-is_among : goal.returns-then-is_among
returns-then-is_among c =
    let names = c.args.names.now in
    let index = c.loop-index.index in
    let first = c.index-names-index.result in
    let step = distinct_more names index c.index-names-index.result c.is_among.result c.loop-index-test.true (c.is_among.ensures ∙ ap (ids.mem first) (take_rest names (index + 1)) ∙ ap (λ x. ids.mem x (drop (index + 1) names)) c.index-names-index.is) in
    sym (sym c.loop-index.invariant ∙ step ∙ ap (λ b. not b && ids.are_distinct (drop (index + 1) names)) c.if-is_among.true)

pub loop-index-preserved : goal.loop-index-preserved
loop-index-preserved c =
    let names = c.args.names.now in
    let index = c.loop-index.index in
    let first = c.index-names-index.result in
    let step = distinct_more names index c.index-names-index.result c.is_among.result c.loop-index-test.true (c.is_among.ensures ∙ ap (ids.mem first) (take_rest names (index + 1)) ∙ ap (λ x. ids.mem x (drop (index + 1) names)) c.index-names-index.is) in
    sym (step ∙ ap (λ b. not b && ids.are_distinct (drop (index + 1) names)) c.if-is_among.false) ∙ c.loop-index.invariant
