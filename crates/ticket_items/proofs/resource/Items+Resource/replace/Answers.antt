use Rattle.std.proofs.Common.{◌∙◌, sym, ap, map}
use Rattle.std.specs.List.{position}
use Rattle.std.specs.Str.{bytes_eq}
use Rattle.ticket_items.proofs.AtKey.{write_at_key, unwritten}
use Rattle.ticket_items.proofs.KeyPlaces.{at_place, at_no_place}
use Rattle.ticket_items.specs.Resource.{with_item}
use Rattle.ticket_items.specs.Ids.{are_distinct}
use Rattle.ticket_items.proofs.resource.Items+Resource.replace.Goals as goal

pub place_in_from-requires : goal.place_in_from-requires
place_in_from-requires c = ap (λ xs. are_distinct (map (λ x. x.id) xs)) (c.as_slice.ensures.value ∙ c.self.view_is) ∙ c.requires

pub returns-in-Some-clause-items : goal.returns-in-Some-clause-items
returns-in-Some-clause-items c =
    let pool = c.self.inside.items.items in
    write_at_key (λ y. y.id) c.args.resource.id (λ _. c.args.resource) pool c.as_slice.result.now c.in-Some.place c.index_mut.result.now c.as_slice.ensures.value
    (ap (λ xs. are_distinct (map (λ x. x.id) xs)) c.self.view_is ∙ c.requires) (sym c.in-Some.ensures) c.index_mut.ensures.value
    ∙ ap (with_item c.args.resource.id (λ _. c.args.resource)) c.self.view_is

pub returns-in-None-clause-items : goal.returns-in-None-clause-items
returns-in-None-clause-items c =
    sym (unwritten (λ y. y.id) c.args.resource.id (λ _. c.args.resource) c.args.self.now c.as_slice.result.now (c.as_slice.ensures.value ∙ c.self.view_is) (sym c.in-None.ensures))

pub returns-in-Some-clause-place : goal.returns-in-Some-clause-place
returns-in-Some-clause-place c =
    at_place (position (λ x. bytes_eq x.id c.args.resource.id) c.args.self.now) c.in-Some.place
    (ap (position (λ x. bytes_eq x.id c.args.resource.id)) (sym (c.as_slice.ensures.value ∙ c.self.view_is)) ∙ sym c.in-Some.ensures)

pub returns-in-None-clause-place : goal.returns-in-None-clause-place
returns-in-None-clause-place c =
    at_no_place (position (λ x. bytes_eq x.id c.args.resource.id) c.args.self.now) c.args.from
    (ap (position (λ x. bytes_eq x.id c.args.resource.id)) (sym (c.as_slice.ensures.value ∙ c.self.view_is)) ∙ sym c.in-None.ensures)
