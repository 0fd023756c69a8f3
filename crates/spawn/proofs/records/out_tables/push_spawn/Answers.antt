use Rattle.std.proofs.Common.{◌∙◌, map, ap}
use Rattle.std.proofs.lemmas.Result.{on_ok_weaker}
use Rattle.ticket_items.specs.Ids.{mem}
use Rattle.spawn.proofs.Shown.{copied-ids}
use Rattle.spawn.specs.OutTables.{numbers_in, numbers_with}
use Rattle.spawn.proofs.records.out_tables.push_spawn.Goals as goal

pub returns : goal.returns
returns c =
    let r = c.args.spawn.now in
    on_ok_weaker c.push_under.result
    (λ under x. under x ∙ ap (λ b. numbers_with b r.id (numbers_in c.args.numbers.now x)) (ap (λ ids. mem x (map (λ s. s.now) ids)) c.as_slice.ensures.value ∙ ap (mem x) c.in_ok-ids.ensures ∙ copied-ids x r)) c.push_under.ensures
