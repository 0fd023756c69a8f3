use Rattle.std.proofs.Common.{◌∙◌, ap}
use Rattle.ticket_items.specs.Ids.{mem}
use Rattle.ticket_rows.specs.Boxed.{contents}
use Rattle.ticket_rows.proofs.Shapes.{ids-shapes}
use Rattle.ticket_rows.specs.Ticket.{ids}
use Rattle.ticket_rows.proofs.indexed_rows.IndexedRows.has_id.Goals as goal

pub returns : goal.returns
returns c =
    let x = c.args.id.now in
    c.has.ensures ∙ c.self.invariant.finds.ids x ∙ ap (mem x) (ids-shapes (contents c.self.inside.rows.items)) ∙ ap (λ rows. mem x (ids rows)) c.self.view_is
