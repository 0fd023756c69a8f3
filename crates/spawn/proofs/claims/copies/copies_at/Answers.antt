use Rattle.std.proofs.Common.{◌∙◌, ◌++◌, ◌&&◌, Bool, List, ℕ, not, ap}
use Rattle.std.specs.List.{filter}
use Rattle.ticket_items.specs.Ids.{mem}
use Rattle.ticket_tree.specs.Part.{is_linked}
use Rattle.ticket_items.specs.Resource.{resource_ids}
use Rattle.ticket_items.specs.declared.resource.Resource.{Resource}
use Rattle.spawn.specs.Parts.{resources}
use Rattle.spawn.proofs.claims.copies.copies_at.Goals as goal

pub returns-clause-rw : goal.returns-clause-rw
returns-clause-rw c =
    let f = is_linked c.args.at.now.below in
    let g = λ (x : List ℕ). mem x c.args.rw.now in
    let test : Resource → Bool = λ x. is_linked c.args.at.now.below x.id && mem x.id c.args.rw.now in
    c.in_ok-push_rows-2.ensures.rw f g c.in_ok-linked.ensures c.in_ok-chosen.ensures
    ∙ ap (λ xs. xs ++ resource_ids (filter test (resources c.args.at.now.behind)))
    (c.in_ok-push_rows.ensures.rw f g c.in_ok-linked.ensures c.in_ok-chosen.ensures ∙ ap (λ xs. xs ++ resource_ids (filter test (resources c.args.at.now.front))) c.new.ensures.items)

pub returns-clause-ro : goal.returns-clause-ro
returns-clause-ro c =
    let f = is_linked c.args.at.now.below in
    let g = λ (x : List ℕ). mem x c.args.rw.now in
    let test : Resource → Bool = λ x. is_linked c.args.at.now.below x.id && not (mem x.id c.args.rw.now) in
    c.in_ok-push_rows-2.ensures.ro f g c.in_ok-linked.ensures c.in_ok-chosen.ensures
    ∙ ap (λ xs. xs ++ filter test (resources c.args.at.now.behind))
    (c.in_ok-push_rows.ensures.ro f g c.in_ok-linked.ensures c.in_ok-chosen.ensures ∙ ap (λ xs. xs ++ filter test (resources c.args.at.now.front)) c.new-2.ensures.items)
