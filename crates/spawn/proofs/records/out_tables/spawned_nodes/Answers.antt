use Rattle.std.proofs.Common.{◌∙◌, ◌+◌, ◌||◌, ap, take}
use Rattle.std.specs.List.{list_any}
use Rattle.std.specs.Str.{bytes_eq}
use Rattle.spawn.proofs.LinkedOutside.{same_set}
use Rattle.spawn.proofs.OutSteps.{any_more, spawns_in}
use Rattle.spawn.specs.declared.records.spawn_rec.SpawnRec.{SpawnRec}
use Rattle.spawn.proofs.records.out_tables.spawned_nodes.Goals as goal

pub loop-spawn-preserved : goal.loop-spawn-preserved
loop-spawn-preserved c =
    let spawns = c.args.spawns.now in
    let i = c.loop-spawn.spawn-index in
    let d = c.spawn-item.result in
    same_set (λ x. list_any (λ (r : SpawnRec). bytes_eq r.node x) (spawns_in (take i spawns)) || bytes_eq d.now.node x) (λ x. list_any (λ (r : SpawnRec). bytes_eq r.node x) (spawns_in (take (i + 1) spawns))) c.add.new.set
    (λ x. ap (λ s. list_any (λ (r : SpawnRec). bytes_eq r.node x) (spawns_in (take i spawns)) || bytes_eq s.now.node x) c.spawn-item.is ∙ any_more (λ (r : SpawnRec). bytes_eq r.node x) spawns i d c.loop-spawn-test.true)
    (c.in_ok-add.ensures (λ x. list_any (λ (r : SpawnRec). bytes_eq r.node x) (spawns_in (take i spawns))) c.loop-spawn.invariant)
