use Rattle.std.proofs.Common.{arith}
use Rattle.courier.proofs.Turning.{IsFirst-greatest, IsTaken-first, Leaves-popped, NoneIsDue-empty, NoneIsDue-later}
use Rattle.courier.proofs.schedule.Schedule.take_due.Goals as goal

-- src/schedule.rt:73:20
pub returns-in_err-next : goal.returns-in_err-next
returns-in_err-next c = rw c.from_residual.ensures (NoneIsDue-empty _ _ c.in_err-next.ensures)

-- src/schedule.rt:75:13
pub returns-then-next-now : goal.returns-then-next-now
returns-then-next-now c = NoneIsDue-later _ _ c.in_ok-next.next c.in_ok-next.ensures c.if-next-now.true

-- src/schedule.rt:70:5
pub returns : goal.returns
returns c =
    let pop = c.in_ok-taken.ensures in
    let top = c.in_ok-taken.taken in
    let heap = c.self.inside.heap.data.items in
    let after = c.pop.new.self.data.items in
    rw (← c.self.view_is) (IsTaken-first c.args.now _ _ c.in_ok-next.next top.0 (rw (← c.self.view_is) at c.in_ok-next.ensures) c.if-next-now.false (IsFirst-greatest top heap (pop.heap_order c.self.invariant).1) (Leaves-popped top heap after _ _ pop.permutation (omega arith)))
