use Rattle.std.proofs.Common.{◌∙◌, ◌++◌, sym, ap}
use Rattle.ticket_items.proofs.Apart.{texts_of}
use Rattle.ticket_rows.proofs.Copies.{ids-copies}
use Rattle.ticket_items.specs.Resource.{resource_ids}
use Rattle.ticket_rows.specs.Copies.{with_copies}
use Rattle.ticket_rows.specs.Ticket.{ids, ids_of}
use Rattle.ticket_rows.proofs.distinct.all_ids.Goals as goal

pub returns : goal.returns
returns c =
    let root = c.in-Some.root.now in
    let later = c.in-Some.later.now in
    let rw = c.args.rw.now in
    let ro = c.args.ro.now in
    c.in_ok-push_rows.ensures
    ∙ ap (λ is. is ++ ids later)
    (c.in_ok-push_pool-2.ensures ∙ ap (λ is. is ++ resource_ids ro) (c.in_ok-push_pool.ensures ∙ ap (λ is. is ++ resource_ids rw) (c.in_ok-push_ids.ensures ∙ ap (λ ids. texts_of ids ++ ids_of root) c.in_ok-all.ensures.items)))
    ∙ sym (ids-copies root later rw ro)
    ∙ ap (λ rows. ids (with_copies rows rw ro)) (sym c.in-Some.ensures.cases.0)
