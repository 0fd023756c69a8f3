use Rattle.std.proofs.Common.{◌≡◌, ◌∙◌, ◌++◌, ◌∷◌, [], Some, arith, ap, set, sym, subst, slice_get}
use Rattle.std.proofs.lemmas.Option.{slice_get-get_or}
use Rattle.ticket_items.specs.Ids.{mem}
use Rattle.ticket_items.specs.declared.node_row.NodeRow.{NodeRow}
use Rattle.ticket_rows.proofs.Boxed.{at_in, count, set_boxed, set_in, stays_boxed}
use Rattle.ticket_rows.proofs.IndexFollows.{index_again, index_pushed, index_unpushed, parents_kept}
use Rattle.ticket_rows.specs.Boxed.{contents}
use Rattle.ticket_rows.specs.ChangedRow.{at_place}
use Rattle.ticket_rows.specs.Index.{Finds, IsIndex, runs_of, shapes_of, with_more}
use Rattle.ticket_rows.specs.Ticket.{depths, ids}
use Rattle.ticket_rows.proofs.edit.growing_edits.add_resource.Goals as goal

pub index_mut-requires : goal.index_mut-requires
index_mut-requires c = omega (arith, c.requires.within, count c.args.rows.now.items)

pub returns-in-Ok-clause-ok : goal.returns-in-Ok-clause-ok
returns-in-Ok-clause-ok c =
    let f = λ (r : NodeRow). record r { resources = r.resources ++ c.args.resource ∷ [] } in
    let s = c.deref_mut.result.now in
    set_boxed f c.args.rows.now.items c.args.place c.index_mut.result.now _ c.requires.within c.index_mut.ensures.value (ap (λ pool. record s { resources = pool }) c.in-Ok.ensures.ok ∙ ap f c.deref_mut.ensures.value)

pub returns-clause-err : goal.returns-clause-err
returns-clause-err c =
    let s = c.deref_mut.result.now in
    stays_boxed c.args.rows.now.items c.args.place c.index_mut.result.now _ c.index_mut.ensures.value (ap (λ pool. record s { resources = pool }) c.in-Err.ensures.err ∙ c.deref_mut.ensures.value)

pub returns-in-Ok-clause-index : goal.returns-in-Ok-clause-index
returns-in-Ok-clause-index c =
    let boxes = c.args.rows.now.items in
    let rows = contents boxes in
    let k = c.args.place in
    let b = c.index_mut.result.now in
    let r = b.value in
    let x = c.args.resource in
    let pool = c.push.new.self in
    let index = c.add_resource.new.self in
    let view = ap contents c.as_slice.ensures.value in
    let at : slice_get rows k ≡ Some r = slice_get-get_or rows k r c.requires.within ∙ ap Some (sym (at_in boxes k b c.requires.within c.index_mut.ensures.value)) in
    let named = subst (λ y. Finds (at_place k (with_more y) (shapes_of (contents c.as_slice.result.now))) index.spots index.places.items) c.in_ok-id.ensures.cases c.in_ok-add_resource.ensures.ok in
    subst (λ rs. IsIndex rs index) (sym (set_in boxes k _ ∙ ap (λ (s : NodeRow). set rows k (record s { resources = pool })) c.deref_mut.ensures.value))
    (index_pushed rows k r x pool index at (c.in-Ok.ensures.ok ∙ ap (λ (s : NodeRow). s.resources ++ x ∷ []) c.deref_mut.ensures.value)
    (subst (λ rs. Finds (at_place k (with_more x.id) (shapes_of rs)) index.spots index.places.items) view named)
    (parents_kept rows c.args.index.now index c.requires.index c.in_ok-add_resource.ensures.places c.in_ok-add_resource.ensures.parents)
    (c.in_ok-add_resource.ensures.runs ∙ ap (λ rs. runs_of (depths rs)) view))

pub returns-clause-index : goal.returns-clause-index
returns-clause-index c =
    let boxes = c.args.rows.now.items in
    let rows = contents boxes in
    let k = c.args.place in
    let b = c.index_mut.result.now in
    let r = b.value in
    let pool = c.push.new.self in
    let index = c.take_out.new.self in
    let view = ap contents c.as_slice.ensures.value in
    let at : slice_get rows k ≡ Some r = slice_get-get_or rows k r c.requires.within ∙ ap Some (sym (at_in boxes k b c.requires.within c.index_mut.ensures.value)) in
    subst (λ rs. IsIndex rs index) (sym (set_in boxes k _ ∙ ap (λ (s : NodeRow). set rows k (record s { resources = pool })) c.deref_mut.ensures.value))
    (index_unpushed rows k r pool index at (c.in-Err.ensures.err ∙ ap (λ (s : NodeRow). s.resources) c.deref_mut.ensures.value)
    (index_again rows c.in_ok-id.id c.args.index.now c.add_resource.new.self index c.requires.index (ap (λ i. mem i (ids rows)) c.in_ok-id.ensures.cases ∙ c.requires.new)
    c.in_ok-add_resource.ensures.others c.take_out.ensures.spots (c.take_out.ensures.places ∙ c.in_ok-add_resource.ensures.places)
    (c.take_out.ensures.parents ∙ c.in_ok-add_resource.ensures.parents)
    (c.take_out.ensures.runs ∙ c.in_ok-add_resource.ensures.runs ∙ ap (λ rs. runs_of (depths rs)) view)))
