use Rattle.std.proofs.Common.{◌∙◌, ap, map}
use Rattle.std.proofs.lemmas.List.{take_all}
use Rattle.server_steps.specs.Journaled.{called_of_coming}
use Rattle.server_steps.proofs.JournalLines.{one_call}
use Rattle.server_steps.proofs.journaling.calls_of_comings.Goals as goal

pub loop-coming-preserved : goal.loop-coming-preserved
loop-coming-preserved g c =
    one_call (λ x. x) c.args.comings.now c.loop-coming.coming-index c.coming-item.result c.loop-coming.calls.items c.push.new.self.items c.call_of.result c.loop-coming-test.true c.coming-item.is
    c.loop-coming.invariant c.call_of.ensures c.in_ok-push.ensures.items

pub returns : goal.returns
returns g c =
    λ honest. c.loop-coming.invariant ∙ ap (map called_of_coming) (take_all c.loop-coming.coming-index c.args.comings.now c.loop-coming-test.false)
