use Rattle.std.proofs.Common.{◌<◌, arith, length, rules, subst, sym}
use Rattle.std.proofs.lemmas.Bool.{true≢false}
use Rattle.std.proofs.lemmas.Iterator.Adapters.{YieldsList-from_vec}
use Rattle.world.proofs.Runs.Answered.{on_err}
use Rattle.world.proofs.Runs.Stopped.{some_there}
use Rattle.shop_day.proofs.Days.{all_of, begun, cut_first, cut_off, next_of, not_full, so_far_more}
use Rattle.shop_day.specs.Done.{DoLines}
use Rattle.shop_day.proofs.running.line_outcomes.Goals as goal

pub loop-line-init : goal.loop-line-init
loop-line-init g c =
    record {
      done = begun c.args.shop.now c.in_ok-outcomes.outcomes.items c.in_ok-outcomes.ensures.items;
      filled = c.in_ok-outcomes.ensures.len;
      room = omega (arith, c.in_ok-outcomes.ensures.capacity, c.len.ensures, c.args.lines.ok.0);
    }

pub loop-line-preserved : goal.loop-line-preserved
loop-line-preserved g c =
    let now = c.loop-line in
    let more = c.push.new.outcomes in
    so_far_more c.args.lines.items now.yielded now.outcomes.items more.items now.outcomes.len now.outcomes.cap more.len more.cap c.in-Some.line c.in_ok-line_outcome.field-0 c.args.shop.now now.shop c.line_outcome.new.shop now.invariant c.in_ok-line_outcome.ensures.done c.in_ok-push.ensures.items c.in_ok-push.ensures.len c.in_ok-push.ensures.capacity

pub returns-clause-done : goal.returns-clause-done
returns-clause-done g c =
    let all = YieldsList-from_vec {s = c.into_iter-line-iterator.result} c.args.lines.items (search rules) (search rules) in
    subst (λ ls. DoLines ls c.loop-line.outcomes.items c.args.shop.now c.loop-line.shop) (all_of all c.loop-line.yielded c.loop-line.line-iterator c.loop-line.yielded_by c.next.result c.next.new.self c.in-None.is c.next.ensures.steps) c.loop-line.invariant.done

-- ---- where memory runs out

pub returns-in_err-line_outcome-clause-err : goal.returns-in_err-line_outcome-clause-err
returns-in_err-line_outcome-clause-err g c =
    let all = YieldsList-from_vec {s = c.into_iter-line-iterator.result} c.args.lines.items (search rules) (search rules) in
    let now = c.loop-line in
    let next = next_of all now.yielded now.line-iterator now.yielded_by c.next.result c.next.new.self c.in-Some.line c.in-Some.is c.next.ensures.steps in
    on_err _ _ (cut_off c.args.lines.items now.yielded now.outcomes.items now.outcomes.len now.outcomes.cap c.in-Some.line c.args.shop.now now.shop c.line_outcome.new.shop now.invariant next c.in_err-line_outcome.ensures.untold)

pub returns-in_err-push-clause-err : goal.returns-in_err-push-clause-err
returns-in_err-push-clause-err g c =
    let all = YieldsList-from_vec {s = c.into_iter-line-iterator.result} c.args.lines.items (search rules) (search rules) in
    let now = c.loop-line in
    let next = next_of all now.yielded now.line-iterator now.yielded_by c.next.result c.next.new.self c.in-Some.line c.in-Some.is c.next.ensures.steps in
    absurd (not_full c.args.lines.items now.yielded now.outcomes.items now.outcomes.len now.outcomes.cap c.in-Some.line c.args.shop.now now.shop now.invariant next c.in_err-push.ensures.full)

pub returns-in_err-outcomes-clause-err : goal.returns-in_err-outcomes-clause-err
returns-in_err-outcomes-clause-err g c =
    let some : 0 < length c.args.lines.items = some_there (length c.args.lines.items) c.len.result (omega (arith, c.len.ensures, c.args.lines.ok.0)) (λ none. true≢false (sym (c.in_err-outcomes.ensures.succeeds none))) in
    on_err _ _ (cut_first c.args.lines.items c.args.shop.now some)
