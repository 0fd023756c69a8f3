use Rattle.std.proofs.Common.{◌≡◌, ◌∙◌, refl, sym, ap, subst}
use Rattle.cells.specs.Kept.{holds}
use Rattle.cells.proofs.Keeping.{once_stepped, part_join, part_of}
use Rattle.cell_commands.proofs.Revisions.{rise_join, sends_rise}
use Rattle.cell_commands.proofs.stepping.try_step.Goals as goal

pub returns-in-Ok-clause-stepped : goal.returns-in-Ok-clause-stepped
returns-in-Ok-clause-stepped g c honest =
    let makes = g.S.Step.makes c.args.step.now in
    let does = subst (λ l. makes l c.as_slice-2.result.now c.in_ok-bytes.given) (c.as_slice.ensures.value ∙ c.in_ok-held.ensures.value honest) (subst (λ l. makes c.as_slice.result.now l c.in_ok-bytes.given) (sym c.as_slice-2.ensures.value) c.in_ok-bytes.ensures) in
    once_stepped makes _ (g.C.Cell.view c.load.new.keep.cell) (g.C.Cell.view c.save.new.keep.cell) _ c.load.new.keep.holding c.as_slice-2.result.now c.in_ok-bytes.given (holds c.load.new.keep.holding c.as_slice-2.result.now)
    (c.load.ensures.sends honest) (c.in_ok-held.ensures.has honest) does refl (λ is. ap g.C.Cell.view (c.in-Ok.ensures.same is)) (λ rests. c.in-Ok.ensures.made honest rests)

pub returns-in-Ok-clause-grows : goal.returns-in-Ok-clause-grows
returns-in-Ok-clause-grows g c honest = part_join _ _ _ (part_of _ _ _ (c.load.ensures.sends honest)) (part_of _ _ _ (c.save.ensures.sends honest))

pub returns-clause-grows : goal.returns-clause-grows
returns-clause-grows g c honest = part_join _ _ _ (part_of _ _ _ (c.load.ensures.sends honest)) (part_of _ _ _ (c.save.ensures.sends honest))

pub returns-in_err-held-clause-rises : goal.returns-in_err-held-clause-rises
returns-in_err-held-clause-rises g c honest = sends_rise _ _ _ (c.load.ensures.sends honest)

pub returns-in_err-bytes-clause-rises : goal.returns-in_err-bytes-clause-rises
returns-in_err-bytes-clause-rises g c honest = sends_rise _ _ _ (c.load.ensures.sends honest)

pub returns-in-Ok-clause-rises : goal.returns-in-Ok-clause-rises
returns-in-Ok-clause-rises g c honest = rise_join _ _ _ (sends_rise _ _ _ (c.load.ensures.sends honest)) (sends_rise _ _ _ (c.save.ensures.sends honest))

pub returns-clause-rises : goal.returns-clause-rises
returns-clause-rises g c honest = rise_join _ _ _ (sends_rise _ _ _ (c.load.ensures.sends honest)) (sends_rise _ _ _ (c.save.ensures.sends honest))
