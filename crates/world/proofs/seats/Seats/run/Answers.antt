use Rattle.std.proofs.Common.{◌<◌, ◌∙◌, ap, arith, length, refl, rules, subst, sym}
use Rattle.std.proofs.lemmas.Bool.{true≢false}
use Rattle.std.proofs.lemmas.Iterator.Adapters.{YieldsList-from_vec}
use Rattle.world.proofs.Runs.Answered.{on_err}
use Rattle.world.proofs.Shop.Changing.{alone, by_holders, kept_then_all}
use Rattle.world.proofs.Shop.MergesTold.{run_told}
use Rattle.world.proofs.Shop.Once.{run_merges_once}
use Rattle.world.proofs.Runs.Replayed.{all_said, all_shown}
use Rattle.world.proofs.Runs.Stopped.{cut_first, cut_shown, some_there, stands_first}
use Rattle.world.proofs.Runs.SoFar.{all_of, cut_off, has_room, next_of, one_more, stands_before}
use Rattle.world.specs.Happening.{after_all, answers_to, machine}
use Rattle.world.specs.State.{IsConsistent}
use Rattle.world.proofs.seats.Seats.run.Goals as goal

pub loop-event-init : goal.loop-event-init
loop-event-init g c =
    record { answers_are = c.in_ok-answers.ensures.items; state_is = refl; filled = c.in_ok-answers.ensures.len; room = omega (arith, c.in_ok-answers.ensures.capacity, c.len.ensures, c.args.events.ok.0) }

pub loop-event-preserved : goal.loop-event-preserved
loop-event-preserved g c =
    let all = YieldsList-from_vec {s = c.into_iter-event-iterator.result} c.args.events.items (search rules) (search rules) in
    let so = c.loop-event.invariant in
    one_more machine c.args.events.items c.loop-event.yielded c.in-Some.event c.args.self.now c.loop-event.answers.items c.loop-event.answers.len c.loop-event.answers.cap c.loop-event.self c.extend_from_slice.new.self.items c.extend_from_slice.new.self.len c.extend_from_slice.new.self.cap c.step.new.self c.in_ok-answer.answer so c.in_ok-answer.ensures.answer c.in_ok-answer.ensures.state c.in_ok-extend_from_slice.ensures.items c.in_ok-extend_from_slice.ensures.len c.in_ok-extend_from_slice.ensures.capacity

pub returns-in_err-answer-clause-err : goal.returns-in_err-answer-clause-err
returns-in_err-answer-clause-err g c =
    let all = YieldsList-from_vec {s = c.into_iter-event-iterator.result} c.args.events.items (search rules) (search rules) in
    let next = next_of all c.loop-event.yielded c.loop-event.event-iterator c.loop-event.yielded_by c.next.result c.next.new.self c.in-Some.event c.in-Some.is c.next.ensures.steps in
    on_err _ c.from_residual-in_err-answer.result (cut_off machine c.args.events.items c.loop-event.yielded c.in-Some.event c.args.self.now c.loop-event.answers.items c.loop-event.answers.len c.loop-event.answers.cap c.loop-event.self c.step.new.self c.loop-event.invariant next c.in_err-answer.ensures.err)

pub returns-in_err-answer-clause-sure : goal.returns-in_err-answer-clause-sure
returns-in_err-answer-clause-sure g c =
    let all = YieldsList-from_vec {s = c.into_iter-event-iterator.result} c.args.events.items (search rules) (search rules) in
    let next = next_of all c.loop-event.yielded c.loop-event.event-iterator c.loop-event.yielded_by c.next.result c.next.new.self c.in-Some.event c.in-Some.is c.next.ensures.steps in
    on_err _ c.from_residual-in_err-answer.result (λ master workers direct. stands_before machine c.args.events.items c.loop-event.yielded c.in-Some.event c.args.self.now c.loop-event.answers.items c.loop-event.answers.len c.loop-event.answers.cap c.loop-event.self c.step.new.self c.loop-event.invariant next (c.in_err-answer.ensures.sure master workers direct))

pub returns-in_err-answer-clause-cut : goal.returns-in_err-answer-clause-cut
returns-in_err-answer-clause-cut g c =
    let all = YieldsList-from_vec {s = c.into_iter-event-iterator.result} c.args.events.items (search rules) (search rules) in
    let next = next_of all c.loop-event.yielded c.loop-event.event-iterator c.loop-event.yielded_by c.next.result c.next.new.self c.in-Some.event c.in-Some.is c.next.ensures.steps in
    on_err _ c.from_residual-in_err-answer.result (cut_shown c.args.events.items c.args.self.now c.step.new.self (subst IsConsistent c.self.view_is c.self.invariant) (cut_off machine c.args.events.items c.loop-event.yielded c.in-Some.event c.args.self.now c.loop-event.answers.items c.loop-event.answers.len c.loop-event.answers.cap c.loop-event.self c.step.new.self c.loop-event.invariant next c.in_err-answer.ensures.err))

pub returns-in_err-extend_from_slice-clause-err : goal.returns-in_err-extend_from_slice-clause-err
returns-in_err-extend_from_slice-clause-err g c =
    let all = YieldsList-from_vec {s = c.into_iter-event-iterator.result} c.args.events.items (search rules) (search rules) in
    let next = next_of all c.loop-event.yielded c.loop-event.event-iterator c.loop-event.yielded_by c.next.result c.next.new.self c.in-Some.event c.in-Some.is c.next.ensures.steps in
    let no = c.in_err-extend_from_slice.ensures.succeeds (has_room machine c.args.events.items c.loop-event.yielded c.in-Some.event c.args.self.now c.loop-event.answers.items c.loop-event.answers.len c.loop-event.answers.cap c.loop-event.self c.loop-event.invariant next) in
    cc

pub returns-in_err-extend_from_slice-clause-cut : goal.returns-in_err-extend_from_slice-clause-cut
returns-in_err-extend_from_slice-clause-cut g c =
    let all = YieldsList-from_vec {s = c.into_iter-event-iterator.result} c.args.events.items (search rules) (search rules) in
    let next = next_of all c.loop-event.yielded c.loop-event.event-iterator c.loop-event.yielded_by c.next.result c.next.new.self c.in-Some.event c.in-Some.is c.next.ensures.steps in
    let no = c.in_err-extend_from_slice.ensures.succeeds (has_room machine c.args.events.items c.loop-event.yielded c.in-Some.event c.args.self.now c.loop-event.answers.items c.loop-event.answers.len c.loop-event.answers.cap c.loop-event.self c.loop-event.invariant next) in
    cc

pub returns-in_err-extend_from_slice-clause-sure : goal.returns-in_err-extend_from_slice-clause-sure
returns-in_err-extend_from_slice-clause-sure g c =
    let all = YieldsList-from_vec {s = c.into_iter-event-iterator.result} c.args.events.items (search rules) (search rules) in
    let next = next_of all c.loop-event.yielded c.loop-event.event-iterator c.loop-event.yielded_by c.next.result c.next.new.self c.in-Some.event c.in-Some.is c.next.ensures.steps in
    let no = c.in_err-extend_from_slice.ensures.succeeds (has_room machine c.args.events.items c.loop-event.yielded c.in-Some.event c.args.self.now c.loop-event.answers.items c.loop-event.answers.len c.loop-event.answers.cap c.loop-event.self c.loop-event.invariant next) in
    cc

pub returns-in_err-answers-clause-alone : goal.returns-in_err-answers-clause-alone
returns-in_err-answers-clause-alone g c = alone c.args.self.now (subst IsConsistent c.self.view_is c.self.invariant)

pub returns-in_err-answers-clause-held : goal.returns-in_err-answers-clause-held
returns-in_err-answers-clause-held g c = by_holders c.args.self.now (subst IsConsistent c.self.view_is c.self.invariant)

pub returns-clause-alone : goal.returns-clause-alone
returns-clause-alone g c = alone c.loop-event.self (kept_then_all c.loop-event.yielded c.args.self.now c.loop-event.self (subst IsConsistent c.self.view_is c.self.invariant) c.loop-event.invariant.state_is)

pub returns-clause-held : goal.returns-clause-held
returns-clause-held g c = by_holders c.loop-event.self (kept_then_all c.loop-event.yielded c.args.self.now c.loop-event.self (subst IsConsistent c.self.view_is c.self.invariant) c.loop-event.invariant.state_is)

pub returns-clause-once : goal.returns-clause-once
returns-clause-once g c = run_merges_once c.loop-event.yielded c.args.self.now c.loop-event.answers.items (subst IsConsistent c.self.view_is c.self.invariant) c.loop-event.invariant.answers_are

pub returns-clause-said : goal.returns-clause-said
returns-clause-said g c =
    let all = YieldsList-from_vec {s = c.into_iter-event-iterator.result} c.args.events.items (search rules) (search rules) in
    let are = all_of all c.loop-event.yielded c.loop-event.event-iterator c.loop-event.yielded_by c.next.result c.next.new.self c.in-None.is c.next.ensures.steps in
    all_said c.args.events.items c.args.self.now c.loop-event.answers.items (subst IsConsistent c.self.view_is c.self.invariant) (c.loop-event.invariant.answers_are ∙ ap (λ es. answers_to es c.args.self.now) are)

pub returns-clause-shown : goal.returns-clause-shown
returns-clause-shown g c =
    let all = YieldsList-from_vec {s = c.into_iter-event-iterator.result} c.args.events.items (search rules) (search rules) in
    let are = all_of all c.loop-event.yielded c.loop-event.event-iterator c.loop-event.yielded_by c.next.result c.next.new.self c.in-None.is c.next.ensures.steps in
    all_shown c.args.events.items c.args.self.now c.loop-event.self (subst IsConsistent c.self.view_is c.self.invariant) (c.loop-event.invariant.state_is ∙ ap (λ es. after_all es c.args.self.now) are)

pub returns-clause-merges : goal.returns-clause-merges
returns-clause-merges g c =
    run_told c.loop-event.yielded c.args.self.now c.loop-event.self c.loop-event.answers.items (subst IsConsistent c.self.view_is c.self.invariant) c.loop-event.invariant.answers_are c.loop-event.invariant.state_is

-- ---- with no room for the answers

pub returns-in_err-answers-clause-err : goal.returns-in_err-answers-clause-err
returns-in_err-answers-clause-err g c =
    let some : 0 < length c.args.events.items = some_there (length c.args.events.items) c.len.result (omega (arith, c.len.ensures, c.args.events.ok.0)) (λ none. true≢false (sym (c.in_err-answers.ensures.succeeds none))) in
    on_err _ c.from_residual.result (cut_first c.args.events.items c.args.self.now some)

pub returns-in_err-answers-clause-sure : goal.returns-in_err-answers-clause-sure
returns-in_err-answers-clause-sure g c =
    let some : 0 < length c.args.events.items = some_there (length c.args.events.items) c.len.result (omega (arith, c.len.ensures, c.args.events.ok.0)) (λ none. true≢false (sym (c.in_err-answers.ensures.succeeds none))) in
    on_err _ c.from_residual.result (λ master workers direct. stands_first c.args.events.items c.args.self.now some)

pub returns-in_err-answers-clause-cut : goal.returns-in_err-answers-clause-cut
returns-in_err-answers-clause-cut g c =
    let some : 0 < length c.args.events.items = some_there (length c.args.events.items) c.len.result (omega (arith, c.len.ensures, c.args.events.ok.0)) (λ none. true≢false (sym (c.in_err-answers.ensures.succeeds none))) in
    on_err _ c.from_residual.result (cut_shown c.args.events.items c.args.self.now c.args.self.now (subst IsConsistent c.self.view_is c.self.invariant) (cut_first c.args.events.items c.args.self.now some))

-- ---- what held before

pub returns-in_err-answers-clause-kept : goal.returns-in_err-answers-clause-kept
returns-in_err-answers-clause-kept g c = subst IsConsistent c.self.view_is c.self.invariant

pub returns-in_err-answer-clause-kept : goal.returns-in_err-answer-clause-kept
returns-in_err-answer-clause-kept g c = subst IsConsistent c.self.view_is c.self.invariant

pub returns-in_err-extend_from_slice-clause-kept : goal.returns-in_err-extend_from_slice-clause-kept
returns-in_err-extend_from_slice-clause-kept g c = subst IsConsistent c.self.view_is c.self.invariant

pub returns-clause-kept : goal.returns-clause-kept
returns-clause-kept g c = subst IsConsistent c.self.view_is c.self.invariant
