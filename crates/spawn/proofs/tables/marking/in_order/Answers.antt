use Rattle.std.proofs.Common.{◌∙◌, ap}
use Rattle.std.proofs.lemmas.List.{take_at, take_all}
use Rattle.spawn.proofs.Sorting.{sorted_is}
use Rattle.spawn.specs.Marking as marking
use Rattle.spawn.proofs.tables.marking.in_order.Goals as goal

pub returns : goal.returns
returns c =
    let sorted = c.sort_unstable.new.self in
    c.new.ensures
    ∙ take_at sorted _ c.loop-number.ordered.len (c.sort_unstable.ensures.len ∙ c.as_mut_slice.ensures.len)
    ∙ sorted_is c.as_mut_slice.result.now sorted c.sort_unstable.ensures.permutation c.sort_unstable.ensures.sorted
    ∙ ap marking.in_order (c.as_mut_slice.ensures.value ∙ c.loop-number.invariant ∙ take_all c.loop-number.number-index c.args.numbers.now c.loop-number-test.false)
