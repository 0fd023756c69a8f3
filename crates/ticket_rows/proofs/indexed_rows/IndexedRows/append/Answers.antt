use Rattle.std.proofs.Common.{◌++◌, ◌∷◌, [], refl}
use Rattle.ticket_items.specs.declared.node_row.NodeRow.{NodeRow}
use Rattle.ticket_rows.specs.Boxed.{contents}
use Rattle.ticket_rows.proofs.AtPlaces.{map-at_place}
use Rattle.ticket_rows.proofs.IndexFollows.{index_stays}
use Rattle.ticket_rows.specs.ChangedRow.{at_place}
use Rattle.ticket_rows.specs.Index.{shape_of}
use Rattle.ticket_rows.proofs.indexed_rows.IndexedRows.append.Goals as goal

pub invariant_of-self : goal.invariant_of-self
invariant_of-self c =
    let rows = contents c.self.inside.rows.items in
    let f = λ (r : NodeRow). record r { audits = r.audits ++ c.args.audit ∷ [] } in
    index_stays c.append.result rows _ (at_place c.args.place f rows) c.self.inside.index c.self.invariant c.append.ensures.ok (map-at_place shape_of f rows c.args.place (λ r. refl)) c.append.ensures.err
