use Rattle.std.proofs.Common.{◌≡◌, List, subst}
use Rattle.std.proofs.lemmas.List.{take_all}
use Rattle.stored_state.specs.declared.coming.Coming.{Coming}
use Rattle.rounds.specs.Anew.{AreCopies}
use Rattle.rounds.proofs.Anewed.{next_copied}
use Rattle.rounds.proofs.anew.copies_of.Goals as goal

pub loop-coming-preserved : goal.loop-coming-preserved
loop-coming-preserved c =
    next_copied c.args.all.now c.loop-coming.coming-index c.coming-item.result c.loop-coming.copied.items c.push.new.self.items c.in_ok-copy.copy c.loop-coming-test.true c.coming-item.is c.loop-coming.invariant c.in_ok-copy.ensures c.in_ok-push.ensures.items

pub returns : goal.returns
returns c =
    subst (λ (xs : List Coming). AreCopies xs c.loop-coming.copied.items) (take_all c.loop-coming.coming-index c.args.all.now c.loop-coming-test.false) c.loop-coming.invariant
