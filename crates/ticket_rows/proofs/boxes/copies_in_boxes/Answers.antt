use Rattle.std.proofs.Common.{◌∙◌, ap}
use Rattle.std.proofs.lemmas.List.{take_all}
use Rattle.ticket_rows.specs.Boxed.{contents}
use Rattle.ticket_rows.proofs.boxes.copies_in_boxes.Goals as goal

pub returns : goal.returns
returns c = c.loop-row.invariant ∙ ap contents (take_all c.loop-row.row-index c.args.rows.now c.loop-row-test.false)
