use Rattle.std.proofs.Common.{◌∙◌, get_or, ap}
use Rattle.spawn.proofs.OutSteps.{numbers_more}
use Rattle.spawn.specs.Marking.{copies}
use Rattle.spawn.specs.OutTables.{numbers_in, numbers_with}
use Rattle.spawn.proofs.records.out_tables.numbers_of.Goals as goal

pub loop-spawn-preserved : goal.loop-spawn-preserved
loop-spawn-preserved c x =
    let spawns = c.args.spawns.now in
    let i = c.loop-spawn.spawn-index in
    let d = c.spawn-item.result in
    let r = (get_or spawns i d).now in
    c.in_ok-push_spawn.ensures x ∙ ap (λ s. numbers_with (copies x s.now) s.now.id (numbers_in c.loop-spawn.numbers x)) c.spawn-item.is
    ∙ ap (numbers_with (copies x r) r.id) (c.loop-spawn.invariant x)
    ∙ numbers_more (copies x) spawns i d c.loop-spawn-test.true
