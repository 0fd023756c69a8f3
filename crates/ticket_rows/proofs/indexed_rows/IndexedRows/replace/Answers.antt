use Rattle.std.proofs.Common.{◌∙◌, refl, ap, set, slice_get, subst, sym}
use Rattle.std.specs.Option.{option_map}
use Rattle.ticket_rows.proofs.AtPlaces.{map-set_row}
use Rattle.ticket_rows.proofs.Boxed.{set_in}
use Rattle.ticket_rows.proofs.IndexFollows.{index_same}
use Rattle.ticket_rows.specs.Boxed.{contents}
use Rattle.ticket_rows.specs.Index.{IsIndex, shape_of}
use Rattle.ticket_rows.proofs.indexed_rows.IndexedRows.replace.Goals as goal

pub invariant_of-self : goal.invariant_of-self
invariant_of-self c =
    let boxes = c.self.inside.rows.items in
    let rows = contents boxes in
    let k = c.args.place in
    subst (λ rs. IsIndex rs c.self.inside.index) (sym (set_in boxes k _))
    (index_same rows (set rows k c.args.row) c.self.inside.index (map-set_row shape_of rows k c.args.row (slice_get rows k) refl (ap (λ rs. option_map shape_of (slice_get rs k)) c.self.view_is ∙ c.requires)) c.self.invariant)

pub returns : goal.returns
returns c = set_in c.self.inside.rows.items c.args.place _ ∙ ap (λ rs. set rs c.args.place c.args.row) c.self.view_is
