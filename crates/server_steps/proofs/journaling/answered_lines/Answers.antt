use Rattle.std.proofs.lemmas.Iterator.{YieldsList-from_slice, YieldsList-from_zip}
use Rattle.std.proofs.lemmas.Iterator.Consumers.{YieldsList-at, YieldsList-end}
use Rattle.stored_state.specs.Addressee.{name_of}
use Rattle.server_steps.specs.Journaled.{line_for, step_of_call, taken_from_client}
use Rattle.server_steps.proofs.JournalLines.{all_lines, lines_more}
use Rattle.server_steps.proofs.journaling.answered_lines.Goals as goal

pub loop-call-preserved : goal.loop-call-preserved
loop-call-preserved g c =
    lines_more (λ p. line_for (name_of c.args.controller.now) c.args.at (step_of_call p.0.now) (taken_from_client p.1.now)) c.loop-call.lines.items c.push_answered.new.lines.items c.loop-call.yielded
    (c.in-Some.call, c.in-Some.one) c.loop-call.invariant c.in_ok-push_answered.ensures

pub returns : goal.returns
returns g c =
    let first = YieldsList-at c.zip-call-items.ensures.first (YieldsList-from_slice {s = c.iter.result} c.args.calls.now c.iter.ensures.rest) in
    let second = YieldsList-at c.zip-call-items.ensures.second (YieldsList-from_slice {s = c.iter-2.result} c.args.answered.now c.iter-2.ensures.rest) in
    let road = YieldsList-at c.into_iter-call-iterator.ensures.into_iter_gives (YieldsList-from_zip {s = c.zip-call-items.result} first second) in
    let all = YieldsList-end road c.loop-call.yielded c.loop-call.call-iterator c.loop-call.yielded_by c.next.result c.next.new.self c.in-None.is c.next.ensures.steps in
    all_lines (name_of c.args.controller.now) c.args.at step_of_call taken_from_client c.args.calls.now c.args.answered.now c.loop-call.yielded c.loop-call.lines.items c.loop-call.invariant all.0
