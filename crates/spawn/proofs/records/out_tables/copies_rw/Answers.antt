use Rattle.std.proofs.Common.{◌∙◌, ◌+◌, ◌||◌, ap, take}
use Rattle.std.specs.List.{list_any}
use Rattle.ticket_items.specs.Ids.{mem}
use Rattle.spawn.proofs.LinkedOutside.{same_set}
use Rattle.spawn.proofs.OutSteps.{any_more, spawns_in}
use Rattle.spawn.specs.Marking as marking
use Rattle.spawn.proofs.records.out_tables.copies_rw.Goals as goal

pub loop-spawn-preserved : goal.loop-spawn-preserved
loop-spawn-preserved c =
    let spawns = c.args.spawns.now in
    let i = c.loop-spawn.spawn-index in
    let d = c.spawn-item.result in
    same_set (λ x. list_any (marking.copies_rw x) (spawns_in (take i spawns)) || mem x c.as_slice.result.now) (λ x. list_any (marking.copies_rw x) (spawns_in (take (i + 1) spawns))) c.add_all.new.set
    (λ x. ap (λ ids. list_any (marking.copies_rw x) (spawns_in (take i spawns)) || mem x ids) (c.as_slice.ensures ∙ ap (λ s. s.now.rw) c.spawn-item.is) ∙ any_more (marking.copies_rw x) spawns i d c.loop-spawn-test.true)
    (c.in_ok-add_all.ensures (λ x. list_any (marking.copies_rw x) (spawns_in (take i spawns))) c.loop-spawn.invariant)
