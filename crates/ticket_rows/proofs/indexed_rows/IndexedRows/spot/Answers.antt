use Rattle.std.proofs.Common.{◌∙◌, ap}
use Rattle.ticket_rows.specs.Index.{resource_place, shapes_of}
use Rattle.ticket_rows.proofs.indexed_rows.IndexedRows.spot.Goals as goal

pub returns : goal.returns
returns c = c.resource.ensures ∙ c.self.invariant.finds.resources c.args.id.now ∙ ap (λ rows. resource_place (shapes_of rows) c.args.id.now) c.self.view_is
