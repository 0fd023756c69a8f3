use Rattle.std.proofs.Common.{arith}
use Rattle.std.proofs.lemmas.Grind.{common_steps}
use Rattle.courier.proofs.Differing.{has-turned, all_differ-turned}
use Rattle.courier.proofs.line.Line.fail.Goals as goal

-- src/line.rt:126:5
pub invariant_of-self : goal.invariant_of-self
invariant_of-self c =
    let old = c.self.inside.queue.items in
    let differ = all_differ-turned old c.self.invariant.paced.differ in
    record { paced = grind (arith, common_steps); same = λ item. grind (arith, common_steps, has-turned item old, c.self.invariant.same item) }

-- src/line.rt:126:5
pub returns-clause-paced : goal.returns-clause-paced
returns-clause-paced c =
    let differ = all_differ-turned c.self.inside.queue.items c.self.invariant.paced.differ in
    grind (arith, common_steps)
