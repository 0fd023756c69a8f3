use Rattle.std.proofs.Common.{◌∙◌, sym, ap}
use Rattle.json_source.specs.Tree.{entries_data}
use Rattle.json_source.proofs.Pairs.{no_text_left, texts_from, trees_in_order}
use Rattle.json_source.proofs.tree_source.texts_of.Goals as goal

pub returns-clause-order : goal.returns-clause-order
returns-clause-order c =
    let all = no_text_left c.loop-name.pairs.items _ (ap (λ es. texts_from c.loop-name.pairs.items (entries_data es)) (sym c.in-None.ensures.steps.0) ∙ c.loop-name.invariant) in
    trees_in_order c.args.members.now.entries _ all c.len.ensures.ordered
