use Rattle.std.proofs.Common.{◌∙◌, sym}
use Rattle.deliveries.proofs.Keys.{none-of}
use Rattle.deliveries.proofs.Passing.{fewer, passed-push, tied-passed}
use Rattle.deliveries.proofs.giving.next_due.Goals as goal

pub loop-flight-preserved : goal.loop-flight-preserved
loop-flight-preserved c =
    let f = c.in-Some.flight in
    let idle = sym c.due_thing.ensures ∙ none-of c.due_thing.result c.in_default-due_thing.not-Some in
    rw (c.withdraw_flight.ensures, c.in-Some.ensures.after)
    (passed-push c.args.now c.args.routes.now c.args.boxes.now c.args.courier.now c.loop-flight.courier f c.loop-flight.invariant.0 c.in-Some.ensures.next idle, tied-passed c.args.now c.loop-flight.courier c.args.routes.now c.args.boxes.now f c.loop-flight.invariant.1 c.in-Some.ensures.next idle)

pub loop-flight-smaller : goal.loop-flight-smaller
loop-flight-smaller c =
    rw (c.withdraw_flight.ensures, c.in-Some.ensures.after) (fewer c.args.now c.loop-flight.courier c.in-Some.flight c.in-Some.ensures.next)
