use Rattle.std.proofs.Common.{◌∙◌, ap}
use Rattle.ticket_rows.specs.Boxed.{contents}
use Rattle.ticket_rows.proofs.IndexFollows.{index_alike}
use Rattle.ticket_rows.proofs.indexed_rows.IndexedRowsClone.clone.Goals as goal

pub invariant_of-result : goal.invariant_of-result
invariant_of-result c = index_alike (contents c.self.inside.rows.items) _ c.self.inside.index _ (c.in_ok-copies_in_boxes.ensures ∙ ap contents c.as_slice.ensures.value) c.in_ok-clone.ensures.cases c.self.invariant
