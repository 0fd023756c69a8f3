use Rattle.std.proofs.Common.{◌∙◌, sym, ap, map}
use Rattle.ticket_items.proofs.AtKey.{write_at_key, unwritten}
use Rattle.ticket_items.specs.Resource.{with_item}
use Rattle.ticket_items.specs.Ids.{are_distinct}
use Rattle.ticket_items.proofs.resource.Items+Resource.set_status.Goals as goal

pub returns-in-Some : goal.returns-in-Some
returns-in-Some c =
    let pool = c.self.inside.items.items in
    write_at_key (λ y. y.id) c.args.id.now (λ x. record x { status = c.args.status }) pool c.as_slice.result.now c.in-Some.place c.index_mut.result.now c.as_slice.ensures.value
    (ap (λ xs. are_distinct (map (λ x. x.id) xs)) c.self.view_is ∙ c.requires) (sym c.in-Some.ensures) c.index_mut.ensures.value
    ∙ ap (with_item c.args.id.now (λ x. record x { status = c.args.status })) c.self.view_is

pub returns-in_default : goal.returns-in_default
returns-in_default c =
    sym (unwritten (λ y. y.id) c.args.id.now (λ x. record x { status = c.args.status }) c.args.self.now c.as_slice.result.now (c.as_slice.ensures.value ∙ c.self.view_is) (sym c.in_default.ensures))
