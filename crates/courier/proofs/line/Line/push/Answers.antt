use Rattle.std.proofs.Common.{rules, arith}
use Rattle.std.proofs.lemmas.Grind.{common_steps}
use Rattle.courier.proofs.Differing.{has-push, all_differ-push}
use Rattle.courier.proofs.line.Line.push.Goals as goal

-- src/line.rt:108:23
pub invariant_of-self-in-Ok : goal.invariant_of-self-in-Ok
invariant_of-self-in-Ok c =
    let old = c.self.inside.queue.items in
    let differ = all_differ-push old c.args.item c.self.invariant.paced.differ (search rules) in
    record { paced = grind (arith, common_steps); same = λ item. grind (arith, common_steps, has-push item c.args.item old, c.self.invariant.same item) }

-- src/line.rt:100:5
pub returns-in-Ok-clause-paced : goal.returns-in-Ok-clause-paced
returns-in-Ok-clause-paced c =
    let differ = all_differ-push c.self.inside.queue.items c.args.item c.self.invariant.paced.differ (search rules) in
    grind (arith, common_steps)
