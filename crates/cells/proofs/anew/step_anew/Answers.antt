use Rattle.std.proofs.Common.{◌≡◌, true, false, sym, ◌∙◌, arith}
use Rattle.cells.proofs.Keeping.{part_join, stepped_since}
use Rattle.cells.proofs.anew.step_anew.Goals as goal

pub returns-in-Ok-clause-stepped : goal.returns-in-Ok-clause-stepped
returns-in-Ok-clause-stepped g c honest = stepped_since _ _ _ _ _ (c.loop.invariant honest).0 (c.in-Ok.ensures.stepped honest)

pub loop-preserved : goal.loop-preserved
loop-preserved g c honest =
    let conflict : c.step_once.new.keep.is_conflict ≡ true = grind (arith, c.is_conflict.ensures, c.if-not-is_conflict.false) in
    (part_join _ _ _ (c.loop.invariant honest).0 (c.step_once.ensures.grows honest), λ s may. (c.loop.invariant honest).1 s (c.step_once.ensures.conflict honest conflict s may))
