use Rattle.std.proofs.Common.{◌≡◌, ◌∙◌, List, ℕ, Err, None, Some, ap, refl, subst}
use Rattle.cells.specs.Chain.{newest}
use Rattle.cells.specs.Kept.{holds}
use Rattle.cells.proofs.Keeping.{once_sent, once_stepped, part_join, part_of, rested_stepped}
use Rattle.rounds.specs.Anew.{ComesTo, TakesText}
use Rattle.rounds.proofs.Anewed.{none_of, not_saved, rose_behind, text_saved, text_stays}
use Rattle.rounds.proofs.anew.take_once.Goals as goal

pub returns-in_default-clause-stepped : goal.returns-in_default-clause-stepped
returns-in_default-clause-stepped g c honest =
    let held : c.new-held.result ≡ (newest (g.C.Cell.view c.load.new.self.cell).chain).bytes = c.new-held.ensures ∙ (c.in-Ok.ensures.value honest).0 in
    let takes = text_stays c.args.to c.args.at c.args.all.items c.new-held.result c.take_all.new.keep c.in_ok-given.given.items c.in_ok-given.saved c.in_ok-given.ensures.ok (none_of c.in_ok-given.saved c.in_default.not-Some) in
    rested_stepped (TakesText c.args.to c.args.at c.args.all.items) _ _ c.new-held.result (c.in_ok-given.given.items, None) (part_of _ _ _ (c.load.ensures.sends honest))
    (subst (λ (b : List ℕ). TakesText c.args.to c.args.at c.args.all.items b c.new-held.result (c.in_ok-given.given.items, None)) held takes) held

pub returns-in-Ok-save-clause-stepped : goal.returns-in-Ok-save-clause-stepped
returns-in-Ok-save-clause-stepped g c honest =
    let held : c.new-held.result ≡ (newest (g.C.Cell.view c.load.new.self.cell).chain).bytes = c.new-held.ensures ∙ (c.in-Ok.ensures.value honest).0 in
    let text = c.text.result.now in
    let takes = text_saved c.args.to c.args.at c.args.all.items c.new-held.result c.take_all.new.keep text c.in_ok-given.given.items c.in_ok-given.saved c.in-Some.saved c.in_ok-given.ensures.ok c.in-Some.is c.text.ensures.text in
    once_stepped (TakesText c.args.to c.args.at c.args.all.items) _ (g.C.Cell.view c.load.new.self.cell) (g.C.Cell.view c.save.new.self.cell) _ c.load.new.self.holding text (c.in_ok-given.given.items, Some c.in-Some.saved) (holds c.load.new.self.holding text)
    (c.load.ensures.sends honest) (c.in-Ok.ensures.has honest) (subst (λ (b : List ℕ). TakesText c.args.to c.args.at c.args.all.items b text (c.in_ok-given.given.items, Some c.in-Some.saved)) held takes) refl
    (λ is. ap g.C.Cell.view (c.save.ensures.same is).0) (λ rests. (c.in-Ok-save.ensures.made honest rests).0)

pub returns-in-Ok-save-clause-sent : goal.returns-in-Ok-save-clause-sent
returns-in-Ok-save-clause-sent g c honest =
    once_sent _ (g.C.Cell.view c.load.new.self.cell) (g.C.Cell.view c.save.new.self.cell) c.args.keep.now.holding c.load.new.self.holding c.text.result.now (holds c.load.new.self.holding c.text.result.now)
    (c.in-Ok.ensures.settled honest) refl (λ is. ap g.C.Cell.view (c.save.ensures.same is).0) (λ rests. (c.in-Ok-save.ensures.made honest rests).0)

pub returns-in-Ok-save-clause-grows : goal.returns-in-Ok-save-clause-grows
returns-in-Ok-save-clause-grows g c honest = part_join _ _ _ (part_of _ _ _ (c.load.ensures.sends honest)) (part_of _ _ _ (c.save.ensures.sends honest))

pub returns-clause-grows : goal.returns-clause-grows
returns-clause-grows g c honest = part_join _ _ _ (part_of _ _ _ (c.load.ensures.sends honest)) (part_of _ _ _ (c.save.ensures.sends honest))

pub returns-clause-refused : goal.returns-clause-refused
returns-clause-refused g c =
    let takes = c.in_ok-given.ensures.ok in
    let comes : ComesTo c.args.to c.args.at c.args.all.items = record { before = takes.before; addressed = takes.addressed; steps = takes.taken.steps; last = takes.last; each = takes.taken.each } in
    not_saved c.args.to c.args.at c.args.all.items c.args.keep.now.count c.save.new.self.count c.in-Err-save.fault _ c.refused_for-in-Err-save.ensures.failed c.refused_for-in-Err-save.ensures.memory comes
    (λ failed. rose_behind c.args.keep.now.count c.load.new.self.count c.save.new.self.count c.load.ensures.failures.kept c.save.ensures.failures.kept (c.save.ensures.failures.raised (c.in-Err-save.is ∙ ap Err failed)))
