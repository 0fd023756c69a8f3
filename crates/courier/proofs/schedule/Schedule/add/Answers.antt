use Rattle.std.proofs.Common.{length, ap, arith}
use Rattle.courier.proofs.Turning.{Joins-pushed, length-turns_of, ok_fact}
use Rattle.courier.proofs.schedule.Schedule.add.Goals as goal

-- src/schedule.rt:50:5
pub returns-then-on : goal.returns-then-on
returns-then-on c =
    let push = c.push-added.ensures in
    let heap = c.self.inside.heap.data.items in
    let ok = c.self.inside.heap.data.ok in
    let asked = c.requires c.if-on.true in
    let many = ap (λ v. length v.turns) c.self.view_is in
    let room = ap (λ v. v.room) c.self.view_is in
    let same = ok_fact _ (push.succeeds (omega (arith, length-turns_of heap))) push.permutation in
    rw (c.if-on.true, ← c.self.view_is) (Joins-pushed c.args.turn heap c.push-added.new.self.data.items _ _ same push.capacity)
