use Rattle.std.proofs.Common.{◌∙◌, ap, refl, rules}
use Rattle.std.proofs.lemmas.Iterator.Adapters.{YieldsList-from_vec}
use Rattle.world.proofs.Runs.SoFar.{all_of}
use Rattle.jdf_loop.proofs.AllEvents.{one_more}
use Rattle.jdf_loop.specs.Losses.{left_by_all, lines_to}
use Rattle.jdf_loop.proofs.command.run_events.Goals as goal

pub loop-event-init : goal.loop-event-init
loop-event-init g c = (c.in_ok-lines.ensures.items, refl)

pub loop-event-preserved : goal.loop-event-preserved
loop-event-preserved g c =
    let now = c.loop-event in
    one_more now.yielded c.in-Some.event c.args.shop.now now.shop c.line_of.new.shop now.lines.items c.push.new.items.items c.in_ok-line_of.field-0
    now.invariant.0 now.invariant.1 c.in_ok-line_of.ensures.line c.in_ok-line_of.ensures.left c.in_ok-push.ensures.ok

pub returns-clause-lines : goal.returns-clause-lines
returns-clause-lines g c =
    let all = YieldsList-from_vec {s = c.into_iter-event-iterator.result} c.args.events.items (search rules) (search rules) in
    c.loop-event.invariant.0 ∙ ap (λ es. lines_to es c.args.shop.now) (all_of all c.loop-event.yielded c.loop-event.event-iterator c.loop-event.yielded_by c.next.result c.next.new.self c.in-None.is c.next.ensures.steps)

pub returns-clause-left : goal.returns-clause-left
returns-clause-left g c =
    let all = YieldsList-from_vec {s = c.into_iter-event-iterator.result} c.args.events.items (search rules) (search rules) in
    c.loop-event.invariant.1 ∙ ap (λ es. left_by_all es c.args.shop.now) (all_of all c.loop-event.yielded c.loop-event.event-iterator c.loop-event.yielded_by c.next.result c.next.new.self c.in-None.is c.next.ensures.steps)
