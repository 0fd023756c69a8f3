use Rattle.std.proofs.Common.{◌≡◌, ◌∙◌, ◌<◌, ap, arith, get_or, length, subst, sym}
use Rattle.ticket_items.specs.declared.node_row.NodeRow.{NodeRow}
use Rattle.ticket_rows.proofs.Boxed.{at_in}
use Rattle.ticket_rows.specs.Boxed.{contents, rows_of}
use Rattle.ticket_rows.proofs.rows_iter.Run.at.Goals as goal

pub returns-in-Boxed : goal.returns-in-Boxed
returns-in-Boxed c =
    let boxes = c.in-Boxed.boxes.now in
    let k = c.args.place in
    let b = c.index-boxes-place.result in
    let within : k < length (contents boxes) = omega (arith, c.requires, ap (λ r. length (rows_of r)) c.in-Boxed.is) in
    subst (λ (r : NodeRow). r ≡ get_or (rows_of c.args.self) k r) (sym c.as_ref.ensures)
    (at_in boxes k b within c.index-boxes-place.is ∙ ap (λ r. get_or (rows_of r) k b.value) (sym c.in-Boxed.is))
