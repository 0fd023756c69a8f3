use Rattle.std.proofs.Common.{◌∙◌, length, map, map-id, rules, subst, sym}
use Rattle.std.proofs.lemmas.Iterator.Adapters.{YieldsList-from_vec}
use Rattle.std.proofs.lemmas.Iterator.Consumers.{YieldsList-end, YieldsList-turn}
use Rattle.std.specs.List.{list_all}
use Rattle.serde_json.specs.View.{items_of}
use Rattle.json_items.proofs.ListLemmas.{Fails-items_read, Reads-failed, items_read-behind}
use Rattle.json_items.specs.Edits.{edit_form, edit_has_names, edit_has_texts}
use Rattle.json_items.specs.Validation.{Finds, first_fault}
use Rattle.json_items.specs.Listed.{items_read}
use Rattle.json_source.specs.Tree.{tree_data}
use Rattle.document_commands.proofs.edit_command.raw_document.find_edits.Goals as goal

pub returns-in_err-next : goal.returns-in_err-next
returns-in_err-next c =
    let all = YieldsList-from_vec {s = c.into_iter-edit-iterator.result} c.args.edits.items (search rules) (search rules) in
    let turn = YieldsList-turn all c.loop-edit.yielded c.loop-edit.edit-iterator c.loop-edit.yielded_by c.next.result c.next.new.self c.in-Some.edit c.in-Some.is c.next.ensures.steps in
    Reads-failed (list_all edit_has_names) (list_all edit_has_texts) c.from_residual-in_err-next.result c.in_err-next.field-0.0 _ c.from_residual-in_err-next.ensures.1
    (Fails-items_read tree_data c.in_err-next.field-0.0 edit_form c.args.edits.items (length c.loop-edit.yielded) c.in-Some.edit turn.0 turn.1 c.in_err-next.ensures)

pub loop-edit-preserved : goal.loop-edit-preserved
loop-edit-preserved c =
    subst (Finds (first_fault (list_all edit_has_names) (list_all edit_has_texts)) c.push_found.new.found)
    (sym (items_read-behind tree_data edit_form c.loop-edit.yielded c.in-Some.edit))
    (c.in_ok-push_found.ensures edit_has_names edit_has_texts _ _ c.loop-edit.invariant c.in_ok-next.ensures)

pub loop-edit-preserved-in_ok-push_found : goal.loop-edit-preserved-in_ok-push_found
loop-edit-preserved-in_ok-push_found c =
    subst (Finds (first_fault (list_all edit_has_names) (list_all edit_has_texts)) c.push_found.new.found)
    (sym (items_read-behind tree_data edit_form c.loop-edit.yielded c.in-Some.edit))
    (c.in_ok-push_found.ensures edit_has_names edit_has_texts _ _ c.loop-edit.invariant c.in_ok-next.ensures)

pub loop-edit-preserved-in_ok-push_found-2 : goal.loop-edit-preserved-in_ok-push_found-2
loop-edit-preserved-in_ok-push_found-2 c =
    subst (Finds (first_fault (list_all edit_has_names) (list_all edit_has_texts)) c.push_found.new.found)
    (sym (items_read-behind tree_data edit_form c.loop-edit.yielded c.in-Some.edit))
    (c.in_ok-push_found.ensures edit_has_names edit_has_texts _ _ c.loop-edit.invariant c.in_ok-next.ensures)

pub returns : goal.returns
returns c =
    let all = YieldsList-from_vec {s = c.into_iter-edit-iterator.result} c.args.edits.items (search rules) (search rules) in
    let end = YieldsList-end all c.loop-edit.yielded c.loop-edit.edit-iterator c.loop-edit.yielded_by c.next.result c.next.new.self c.in-None.is c.next.ensures.steps in
    subst (λ vs. Finds (first_fault (list_all edit_has_names) (list_all edit_has_texts)) c.loop-edit.found (items_read edit_form (items_of (map tree_data vs)))) (sym (map-id c.loop-edit.yielded) ∙ end.0) c.loop-edit.invariant
