use Rattle.std.proofs.Common.{rules, ◌≡◌, ◌∙◌, Some, refl, ap}
use Rattle.std.specs.List.{position}
use Rattle.ticket_items.specs.declared.resource.Resource.{Resource}
use Rattle.ticket_rows.specs.Boxed.{contents}
use Rattle.ticket_rows.proofs.AtHome.{holds}
use Rattle.ticket_rows.proofs.IndexFollows.{index_same, shapes-with_resource}
use Rattle.ticket_rows.proofs.OneRows.{with_resource-same}
use Rattle.ticket_rows.specs.OneRow.{replaced_resource}
use Rattle.ticket_rows.specs.Index.{shapes_of}
use Rattle.ticket_rows.proofs.indexed_rows.IndexedRows.replace_resource.Goals as goal

pub invariant_of-self : goal.invariant_of-self
invariant_of-self c =
    let rows = contents c.self.inside.rows.items in
    let x = c.args.resource in
    index_same rows _ c.self.inside.index
    (ap shapes_of (c.replace_resource.ensures ∙ with_resource-same x rows) ∙ shapes-with_resource x.id (λ (y : Resource). record x { id = y.id }) rows (λ y. refl)) c.self.invariant

pub replace_resource-requires-clause-home : goal.replace_resource-requires-clause-home
replace_resource-requires-clause-home c =
    let there : position (holds c.args.resource.id) (contents c.self.inside.rows.items) ≡ Some c.args.home = ap (position (holds c.args.resource.id)) c.self.view_is ∙ c.requires.home in
    search (rules, there)

pub returns : goal.returns
returns c = c.replace_resource.ensures ∙ ap (replaced_resource c.args.resource) c.self.view_is
