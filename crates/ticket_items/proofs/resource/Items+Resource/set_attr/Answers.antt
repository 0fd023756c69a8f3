use Rattle.std.proofs.Common.{◌∙◌, sym, ap, map, slice_set}
use Rattle.ticket_items.proofs.AtKey.{write_at_key, unwritten}
use Rattle.ticket_items.specs.Attrs.{with_attr}
use Rattle.ticket_items.specs.Resource.{with_item}
use Rattle.ticket_items.specs.Ids.{are_distinct}
use Rattle.ticket_items.proofs.resource.Items+Resource.set_attr.Goals as goal

pub returns-in_ok-set-clause-ok : goal.returns-in_ok-set-clause-ok
returns-in_ok-set-clause-ok c =
    let pool = c.self.inside.items.items in
    let s = c.index_mut.result.now in
    ap (λ attrs. slice_set pool c.in-Some.place (record s { attrs = attrs })) c.in_ok-set.ensures.ok
    ∙ write_at_key (λ y. y.id) c.args.id.now (λ x. record x { attrs = with_attr c.args.name c.args.value x.attrs }) pool c.as_slice.result.now c.in-Some.place s c.as_slice.ensures.value
    (ap (λ xs. are_distinct (map (λ x. x.id) xs)) c.self.view_is ∙ c.requires) (sym c.in-Some.ensures) c.index_mut.ensures.value
    ∙ ap (with_item c.args.id.now (λ x. record x { attrs = with_attr c.args.name c.args.value x.attrs })) c.self.view_is

pub returns-in_default-clause-ok : goal.returns-in_default-clause-ok
returns-in_default-clause-ok c =
    sym (unwritten (λ y. y.id) c.args.id.now (λ x. record x { attrs = with_attr c.args.name c.args.value x.attrs }) c.args.self.now c.as_slice.result.now (c.as_slice.ensures.value ∙ c.self.view_is) (sym c.in_default.ensures))
