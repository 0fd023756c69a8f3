use Rattle.std.proofs.Common.{◌≡◌, ◌∙◌, ◌<◌, ap, arith, get_or, length, subst, sym}
use Rattle.ticket_items.specs.declared.node_row.NodeRow.{NodeRow}
use Rattle.ticket_rows.proofs.Boxed.{at_in, count}
use Rattle.ticket_rows.specs.Boxed.{contents}
use Rattle.ticket_rows.proofs.indexed_rows.IndexedRows.at.Goals as goal

pub index-requires : goal.index-requires
index-requires c = omega (arith, c.requires, ap length c.self.view_is, count c.self.inside.rows.items)

pub returns : goal.returns
returns c =
    let boxes = c.self.inside.rows.items in
    let k = c.args.place in
    let b = c.index.result.now in
    let within : k < length (contents boxes) = omega (arith, c.requires, ap length c.self.view_is) in
    subst (λ (r : NodeRow). r ≡ get_or c.args.self.now k r) (sym c.as_ref.ensures)
    (at_in boxes k b within c.index.ensures ∙ ap (λ rs. get_or rs k b.value) c.self.view_is)
