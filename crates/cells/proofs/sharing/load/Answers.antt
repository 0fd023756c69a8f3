use Rattle.std.proofs.Common.{◌≡◌, ◌<◌, ℕ, Bool, true, false, List, [], ◌∷◌, ◌++◌, refl, sym, ◌∙◌, ap, subst, arith, rules}
use Rattle.cells.proofs.Keeping.{goes_behind, load_settles}
use Rattle.cells.proofs.sharing.load.Goals as goal

pub returns-clause-sends : goal.returns-clause-sends
returns-clause-sends g c honest = goes_behind _ _ _ _ (c.settle.ensures.sends honest) (c.read_held.ensures.goes honest)

pub returns-clause-settled : goal.returns-clause-settled
returns-clause-settled g c honest =
    load_settles c.read_held.result c.args.holder.now _ _ _ _ c.read_held.ensures.closed (c.settle.ensures.settled honest) (c.read_held.ensures.goes honest)
