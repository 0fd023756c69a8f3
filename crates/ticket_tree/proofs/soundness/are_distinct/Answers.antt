use Rattle.std.proofs.Common.{◌∙◌, ◌+◌, ◌&&◌, not, drop, get_or, sym, ap}
use Rattle.std.proofs.lemmas.List.{take_rest}
use Rattle.std.specs.List.{list_any}
use Rattle.std.specs.Str.{bytes_eq}
use Rattle.ticket_tree.proofs.Sound.{distinct_more}
use Rattle.ticket_items.specs.Ids as id_lists
use Rattle.ticket_tree.specs.Part as part
use Rattle.ticket_tree.proofs.soundness.are_distinct.Goals as goal

pub returns-then-names : goal.returns-then-names
returns-then-names c =
    let ancestors = c.args.ancestors.now in
    let index = c.loop-index.index in
    let first = get_or ancestors index c.index-ancestors-index.result in
    let step = distinct_more ancestors index c.index-ancestors-index.result c.names.result c.loop-index-test.true (c.names.ensures ∙ ap (list_any (λ a. bytes_eq a.node_id first.node_id)) (take_rest ancestors (index + 1))) in
    sym (sym c.loop-index.invariant ∙ step ∙ ap (λ b. not b && id_lists.are_distinct (part.ancestor_ids (drop (index + 1) ancestors))) c.if-names.true)

pub loop-index-preserved : goal.loop-index-preserved
loop-index-preserved c =
    let ancestors = c.args.ancestors.now in
    let index = c.loop-index.index in
    let first = get_or ancestors index c.index-ancestors-index.result in
    let step = distinct_more ancestors index c.index-ancestors-index.result c.names.result c.loop-index-test.true (c.names.ensures ∙ ap (list_any (λ a. bytes_eq a.node_id first.node_id)) (take_rest ancestors (index + 1))) in
    sym (step ∙ ap (λ b. not b && id_lists.are_distinct (part.ancestor_ids (drop (index + 1) ancestors))) c.if-names.false) ∙ c.loop-index.invariant
