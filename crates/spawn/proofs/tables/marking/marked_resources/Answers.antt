use Rattle.std.proofs.Common.{◌∙◌, ◌++◌, take, ap, arith}
use Rattle.std.specs.List.{filter_map}
use Rattle.ticket_items.specs.Resource.{resource_ids}
use Rattle.spawn.proofs.Shown.{rows_more}
use Rattle.spawn.specs.OutTables.{mark_in}
use Rattle.spawn.specs.Parts.{resources}
use Rattle.spawn.proofs.tables.marking.marked_resources.Goals as goal

pub loop-place-preserved : goal.loop-place-preserved
loop-place-preserved c =
    let rows = c.args.rows.now in
    let f = mark_in c.args.copies.now.changed c.args.copies.now.numbers in
    c.in_ok-push_marks.ensures ∙ ap (λ ms. ms ++ filter_map f (resource_ids c.as_slice.result.now)) c.loop-place.invariant
    ∙ ap (λ pool. filter_map f (resource_ids (resources (take c.loop-place.place rows))) ++ filter_map f (resource_ids pool)) (c.as_slice.ensures ∙ ap (λ r. r.resources) c.at-row.ensures)
    ∙ rows_more f rows c.loop-place.place c.at-row.result.now (omega (arith, c.loop-place-test.true, c.len-place-end.ensures))
