use Rattle.std.proofs.Common.{◌≡◌, ◌<◌, ℕ, Bool, true, false, List, [], ◌∷◌, ◌++◌, refl, sym, ◌∙◌, ap, subst, arith, rules}
use Rattle.cells.proofs.Keeping.{settle_sends, settle_settles}
use Rattle.cells.proofs.sharing.settle.Goals as goal

pub returns-clause-sends : goal.returns-clause-sends
returns-clause-sends g c honest =
    settle_sends c.args.holder.now _ _ c.touch.result c.touch.ensures.some (λ none. ap g.C.Cell.view (c.touch.ensures.none none).1) (c.touch.ensures.swaps honest)

pub returns-clause-settled : goal.returns-clause-settled
returns-clause-settled g c honest closed =
    settle_settles c.args.holder.now c.touch.new.self _ _ c.touch.result c.touch.ensures.some (λ none. ap g.C.Cell.view (c.touch.ensures.none none).1) (λ none. (c.touch.ensures.none none).0) (c.touch.ensures.swaps honest) c.touch.ensures.after closed
