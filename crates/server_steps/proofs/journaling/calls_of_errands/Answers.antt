use Rattle.std.proofs.Common.{◌∙◌, ap, map}
use Rattle.std.proofs.lemmas.List.{take_all}
use Rattle.rounds.specs.Line.{coming_in}
use Rattle.server_steps.specs.Journaled.{called_of_coming}
use Rattle.server_steps.proofs.JournalLines.{map_of_map, one_call}
use Rattle.server_steps.proofs.journaling.calls_of_errands.Goals as goal

pub loop-errand-preserved : goal.loop-errand-preserved
loop-errand-preserved g c =
    one_call coming_in c.args.errands.now c.loop-errand.errand-index c.errand-item.result c.loop-errand.calls.items c.push.new.self.items c.call_of.result c.loop-errand-test.true c.errand-item.is
    c.loop-errand.invariant c.call_of.ensures c.in_ok-push.ensures.items

pub returns : goal.returns
returns g c =
    λ honest. c.loop-errand.invariant ∙ ap (map (λ e. called_of_coming (coming_in e))) (take_all c.loop-errand.errand-index c.args.errands.now c.loop-errand-test.false)
    ∙ map_of_map called_of_coming coming_in c.args.errands.now
