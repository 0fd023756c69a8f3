use Rattle.std.proofs.Common.{◌≡◌, refl, sym, ◌∙◌, ap, subst}
use Rattle.cells.proofs.Keeping.{swap_sends, touch_behind, unknown_same}
use Rattle.cells.proofs.sharing.save.Goals as goal

pub returns-in-Unknown-clause-sends : goal.returns-in-Unknown-clause-sends
returns-in-Unknown-clause-sends g c honest =
    touch_behind c.args.holder.now c.swap.new.self c.args.bytes.now _ _ _ (unknown_same c.in_ok-answer.answer c.args.bytes.now c.args.holder.now c.swap.new.self c.in_ok-answer.ensures.after c.in-Unknown.is)
    (swap_sends c.args.holder.now c.args.bytes.now _ _ c.in_ok-answer.answer c.in_ok-answer.ensures.sent (c.in_ok-answer.ensures.swaps honest)) (c.settle.ensures.sends honest)

pub returns-in-Made-clause-sends : goal.returns-in-Made-clause-sends
returns-in-Made-clause-sends g c honest = swap_sends c.args.holder.now c.args.bytes.now _ _ c.in_ok-answer.answer c.in_ok-answer.ensures.sent (c.in_ok-answer.ensures.swaps honest)

pub returns-in-Other-clause-sends : goal.returns-in-Other-clause-sends
returns-in-Other-clause-sends g c honest = swap_sends c.args.holder.now c.args.bytes.now _ _ c.in_ok-answer.answer c.in_ok-answer.ensures.sent (c.in_ok-answer.ensures.swaps honest)
