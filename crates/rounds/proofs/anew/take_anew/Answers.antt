use Rattle.std.proofs.Common.{◌≡◌, ◌∙◌, List, true, arith, subst}
use Rattle.stored_state.specs.declared.coming.Coming.{Coming}
use Rattle.cells.proofs.Keeping.{part_join, stepped_since}
use Rattle.rounds.specs.Anew.{AreCopies, TakesText}
use Rattle.rounds.proofs.Anewed.{as_many_copies, last_stepped, none_of_copy, stepped_of_copy, taken_of_copy}
use Rattle.rounds.proofs.anew.take_anew.Goals as goal

pub returns-in-Ok-clause-taken : goal.returns-in-Ok-clause-taken
returns-in-Ok-clause-taken g c =
    let copies = subst (λ (xs : List Coming). AreCopies xs c.in_ok-copied.copied.items) c.as_slice.ensures.value c.in_ok-copied.ensures in
    taken_of_copy c.args.to c.args.at c.args.all.items c.in_ok-copied.copied.items _ copies c.in-Ok.ensures.taken

pub returns-in-Ok-clause-each : goal.returns-in-Ok-clause-each
returns-in-Ok-clause-each g c =
    let copies = subst (λ (xs : List Coming). AreCopies xs c.in_ok-copied.copied.items) c.as_slice.ensures.value c.in_ok-copied.ensures in
    c.in-Ok.ensures.each ∙ as_many_copies c.args.all.items c.in_ok-copied.copied.items copies

pub returns-in-Ok-clause-stepped : goal.returns-in-Ok-clause-stepped
returns-in-Ok-clause-stepped g c honest =
    let copies = subst (λ (xs : List Coming). AreCopies xs c.in_ok-copied.copied.items) c.as_slice.ensures.value c.in_ok-copied.ensures in
    stepped_since _ _ _ _ _ (c.loop.invariant.went honest).0 (stepped_of_copy c.args.to c.args.at c.args.all.items c.in_ok-copied.copied.items _ _ _ copies (c.in-Ok.ensures.stepped honest))

pub returns-in-Ok-clause-sent : goal.returns-in-Ok-clause-sent
returns-in-Ok-clause-sent g c honest = λ s may. (c.loop.invariant.went honest).1 s (c.in-Ok.ensures.sent honest s may)

pub loop-preserved : goal.loop-preserved
loop-preserved g c =
    record {
      counted = grind (arith, c.loop.invariant.counted, c.take_once.ensures.counted);
      went = λ honest.
          let conflict : c.take_once.new.keep.is_conflict ≡ true = grind (arith, c.is_conflict.ensures, c.if-not-is_conflict.false) in
          (part_join _ _ _ (c.loop.invariant.went honest).0 (c.take_once.ensures.grows honest), λ s may. (c.loop.invariant.went honest).1 s (c.take_once.ensures.conflict honest conflict s may));
    }

pub returns-then-not-is_conflict-clause-refused : goal.returns-then-not-is_conflict-clause-refused
returns-then-not-is_conflict-clause-refused g c =
    let copies = subst (λ (xs : List Coming). AreCopies xs c.in_ok-copied.copied.items) c.as_slice.ensures.value c.in_ok-copied.ensures in
    none_of_copy c.args.to c.args.at c.args.all.items c.in_ok-copied.copied.items c.args.keep.now.count c.loop.keep.count c.take_once.new.keep.count c.in-Err.refused copies c.loop.invariant.counted c.take_once.ensures.counted c.in-Err.ensures.refused

pub returns-clause-stepped : goal.returns-clause-stepped
returns-clause-stepped g c honest =
    last_stepped c.take_once-2.result (λ taken. (taken.0.items, taken.1)) (TakesText c.args.to c.args.at c.args.all.items) _ _ _ (c.loop.invariant.went honest).0 (c.take_once-2.ensures.stepped honest)
