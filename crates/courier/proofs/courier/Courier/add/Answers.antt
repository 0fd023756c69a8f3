use Rattle.std.proofs.Common.{◌≡◌, ◌∙◌, ◌++◌, ◌∷◌, [], arith, subst, ap}
use Rattle.courier.proofs.Keeping.{IsConsistent-added}
use Rattle.courier.specs.Destination.{IsPaced, new_at}
use Rattle.courier.proofs.courier.Courier.add.Goals as goal

pub invariant_of-self-2 : goal.invariant_of-self-2
invariant_of-self-2 c =
    let ok = c.self.inside.lines.ok in
    let push = c.in_ok-push.ensures in
    let added : c.push.new.self.items ≡ c.self.inside.lines.items ++ new_at c.args.now ∷ [] = push.items ∙ ap (λ d. c.self.inside.lines.items ++ d ∷ []) c.new.ensures.value in
    rw added (IsConsistent-added _ c.args.now c.self.inside.schedule c.reserve.new.self (subst IsPaced c.new.ensures.value c.new.ensures.paced) c.self.invariant c.in_ok-reserve.ensures.turns (omega (arith, c.in_ok-reserve.ensures.ok)))
