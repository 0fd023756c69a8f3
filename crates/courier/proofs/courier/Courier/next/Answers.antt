use Rattle.std.proofs.Common.{◌∙◌, slice_get, arith, sym, ap}
use Rattle.courier.proofs.Keeping.{AreTried-quiet, IsConsistent-taken, IsNext-taken, IsQuiet-none, at-read, turn-there}
use Rattle.courier.specs.Destination.{waits}
use Rattle.courier.proofs.courier.Courier.next.Goals as goal

pub returns-in_err-turn-clause-next : goal.returns-in_err-turn-clause-next
returns-in_err-turn-clause-next c = rw (c.from_residual.ensures, ← c.self.view_is) (IsQuiet-none c.args.now _ _ _ c.self.invariant c.in_err-turn.ensures)

pub returns-in_err-turn-clause-tried : goal.returns-in_err-turn-clause-tried
returns-in_err-turn-clause-tried c = rw c.from_residual.ensures (AreTried-quiet c.args.now _ _ c.self.invariant (IsQuiet-none c.args.now _ _ _ c.self.invariant c.in_err-turn.ensures))

pub index_mut-requires : goal.index_mut-requires
index_mut-requires c =
    let ok = c.self.inside.lines.ok in
    let there = turn-there _ _ c.in_ok-turn.turn c.self.invariant c.in_ok-turn.ensures.there in
    omega (arith, there.2)

pub begin-item-requires : goal.begin-item-requires
begin-item-requires c =
    let there = turn-there _ _ c.in_ok-turn.turn c.self.invariant c.in_ok-turn.ensures.there in
    ap waits (at-read _ _ _ there.2 c.index_mut.ensures.value) ∙ there.0

pub invariant_of-self-2 : goal.invariant_of-self-2
invariant_of-self-2 c =
    let begun = c.begin-item.ensures in
    IsConsistent-taken c.args.now _ c.in_ok-turn.turn c.begin-item.new.self _ _ begun.paced (ap waits begun.value) c.self.invariant c.in_ok-turn.ensures

pub returns-clause-next : goal.returns-clause-next
returns-clause-next c =
    let there = turn-there _ _ c.in_ok-turn.turn c.self.invariant c.in_ok-turn.ensures.there in
    let first = ap (λ d. slice_get d.items 0) (sym (at-read _ _ _ there.2 c.index_mut.ensures.value)) ∙ c.begin-item.ensures.item in
    rw (← c.self.view_is) (IsNext-taken c.args.now _ c.in_ok-turn.turn c.begin-item.result _ _ c.self.invariant c.in_ok-turn.ensures first)
