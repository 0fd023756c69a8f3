use Rattle.std.proofs.Common.{◌≡◌, ◌∙◌, ◌+◌, ◌<◌, Some, drop, is_ok, if◌then◌else◌, length, sym, ap, subst, suc, add-one, arith, insert, slice_get}
use Rattle.std.proofs.lemmas.List.{length-drop}
use Rattle.ticket_items.proofs.Places.{same_found}
use Rattle.ticket_items.specs.declared.node_row.NodeRow.{NodeRow}
use Rattle.ticket_rows.proofs.Below.{run_length}
use Rattle.ticket_rows.proofs.Boxed.{count, insert_in, there_in}
use Rattle.ticket_rows.proofs.NewNode.{run_within}
use Rattle.ticket_rows.specs.Boxed.{contents}
use Rattle.ticket_rows.specs.ChangedRow.{end_behind}
use Rattle.ticket_rows.specs.Edit.{bare_row}
use Rattle.ticket_rows.specs.Index.{IsIndex}
use Rattle.ticket_rows.proofs.edit.growing_edits.add_node.Goals as goal

pub index-requires : goal.index-requires
index-requires c = omega (arith, c.requires.within, count c.args.rows.now.items)

pub overflow_add-depth : goal.overflow_add-depth
overflow_add-depth c =
    let s = c.deref.result.now in
    omega (arith, c.requires.shallow s (there_in c.args.rows.now.items c.args.place c.index.result.now s c.requires.within c.index.ensures c.deref.ensures))

pub insert-requires : goal.insert-requires
insert-requires c =
    let rows = contents c.args.rows.now.items in
    let k = c.args.place in
    let b = c.index.result.now in
    let s = c.deref.result.now in
    let view = ap contents (c.as_slice.ensures.value ∙ c.in_ok-reserve.ensures.items) in
    let there : slice_get rows k ≡ Some s = there_in c.args.rows.now.items k b s c.requires.within c.index.ensures c.deref.ensures in
    let end : c.in_ok-end.end ≡ k + 1 + run_length s.depth (drop (k + 1) rows) = c.in_ok-end.ensures.end s (ap (λ rs. slice_get rs k) view ∙ there) ∙ ap (λ rs. end_behind rs k s) view in
    let within : k < length rows = c.requires.within in
    omega (arith, run_within s.depth (drop (k + 1) rows), length-drop (k + 1) rows, count c.args.rows.now.items, c.reserve.new.self.ok.0, ap length c.in_ok-reserve.ensures.items)

pub returns-clause-ok : goal.returns-clause-ok
returns-clause-ok c r at =
    let rows = contents c.args.rows.now.items in
    let k = c.args.place in
    let b = c.index.result.now in
    let s = c.deref.result.now in
    let end = c.in_ok-end.end in
    let box = c.in_ok-row.row in
    let grown = c.reserve.new.self.items in
    let new = bare_row c.args.id c.args.kind c.args.job_part c.args.status in
    let view = ap contents (c.as_slice.ensures.value ∙ c.in_ok-reserve.ensures.items) in
    let same : s ≡ r = same_found s r (slice_get rows k) (there_in c.args.rows.now.items k b s c.requires.within c.index.ensures c.deref.ensures) at in
    ap contents (c.insert.ensures.items ∙ ap (λ o. if is_ok o then insert grown end box else grown) c.unwrap.ensures)
    ∙ insert_in grown end box
    ∙ ap (λ bs. insert (contents bs) end box.value) c.in_ok-reserve.ensures.items
    ∙ ap (insert rows end) (c.in_ok-row.ensures.ok ∙ c.bare_row.ensures ∙ ap new (add-one s.depth) ∙ ap (λ (t : NodeRow). new (suc t.depth)) same)
    ∙ ap (λ i. insert rows i (new (suc r.depth))) (c.in_ok-end.ensures.end r (ap (λ rs. slice_get rs k) view ∙ at) ∙ ap (λ rs. end_behind rs k r) view)

pub returns-clause-index : goal.returns-clause-index
returns-clause-index c =
    let rows = contents c.args.rows.now.items in
    let k = c.args.place in
    let b = c.index.result.now in
    let s = c.deref.result.now in
    let end = c.in_ok-end.end in
    let box = c.in_ok-row.row in
    let row = box.value in
    let grown = c.reserve.new.self.items in
    let view = ap contents (c.as_slice.ensures.value ∙ c.in_ok-reserve.ensures.items) in
    let there : slice_get rows k ≡ Some s = there_in c.args.rows.now.items k b s c.requires.within c.index.ensures c.deref.ensures in
    let bare_is = c.in_ok-row.ensures.ok ∙ c.bare_row.ensures in
    let named = ap (λ (t : NodeRow). t.id) bare_is ∙ sym c.in_ok-key.ensures.cases in
    let bare = ap (λ (t : NodeRow). t.resources) bare_is in
    let one = ap (λ (t : NodeRow). t.depth) bare_is ∙ add-one s.depth in
    subst (λ rs. IsIndex rs c.add_node.new.self)
    (sym (ap contents (c.insert.ensures.items ∙ ap (λ o. if is_ok o then insert grown end box else grown) c.unwrap.ensures) ∙ insert_in grown end box ∙ ap (λ bs. insert (contents bs) end row) (sym c.as_slice.ensures.value)))
    (c.in_ok-end.ensures.ok s row (ap (λ rs. slice_get rs k) view ∙ there) named bare one)
