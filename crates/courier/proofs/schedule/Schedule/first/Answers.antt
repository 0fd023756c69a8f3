use Rattle.std.proofs.Common.{rules, arith}
use Rattle.courier.proofs.Turning.{IsFirst-greatest, times-top}
use Rattle.courier.proofs.schedule.Schedule.first.Goals as goal

-- src/schedule.rt:60:5
pub returns-in-Some : goal.returns-in-Some
returns-in-Some c =
    let peek = c.in-Some.ensures in
    let top = c.in-Some.field-0.now in
    let heap = c.self.inside.heap.data.items in
    let ok = c.self.inside.heap.data.ok in
    rw (← c.self.view_is) (times-top top heap (omega (arith, peek.variant.0 (search rules))) peek.lookup, IsFirst-greatest top heap (peek.greatest c.self.invariant))
