use Rattle.std.proofs.Common.{◌∙◌, ap}
use Rattle.std.specs.List.{position}
use Rattle.std.specs.Str.{bytes_eq}
use Rattle.ticket_rows.specs.Boxed.{contents}
use Rattle.ticket_rows.proofs.Shapes.{node-rows}
use Rattle.ticket_rows.proofs.indexed_rows.IndexedRows.place.Goals as goal

pub returns : goal.returns
returns c =
    let x = c.args.id.now in
    c.node.ensures ∙ c.self.invariant.finds.nodes x ∙ node-rows x (contents c.self.inside.rows.items) ∙ ap (position (λ r. bytes_eq r.id x)) c.self.view_is
