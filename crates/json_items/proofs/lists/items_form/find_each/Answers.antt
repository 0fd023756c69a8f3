use Rattle.std.proofs.Common.{sym, map, subst}
use Rattle.std.proofs.lemmas.List.{take_all}
use Rattle.std.specs.List.{list_all}
use Rattle.serde_json.specs.View.{items_of}
use Rattle.json_items.proofs.ListLemmas.{Fails-items_read, Reads-failed, items_read-more}
use Rattle.json_items.specs.Validation.{Finds, first_fault}
use Rattle.json_items.specs.Listed.{items_read}
use Rattle.json_items.proofs.lists.items_form.find_each.Goals as goal

pub returns-in_err-next : goal.returns-in_err-next
returns-in_err-next g c =
    Reads-failed (list_all g.T.FormIn.names_valid) (list_all g.T.FormIn.texts_valid) c.from_residual-in_err-next.result c.in_err-next.field-0.0 _ c.from_residual-in_err-next.ensures.1
    (Fails-items_read g.S.Source.content c.in_err-next.field-0.0 (g.T.FormIn.form_in c.args.setting.now) c.args.items.now c.loop-item.item-index c.item-item.result c.loop-item-test.true c.item-item.is c.in_err-next.ensures)

pub loop-item-preserved : goal.loop-item-preserved
loop-item-preserved g c =
    let more = items_read-more g.S.Source.content (g.T.FormIn.form_in c.args.setting.now) c.args.items.now c.loop-item.item-index c.item-item.result c.loop-item-test.true c.item-item.is in
    subst (Finds (first_fault (list_all g.T.FormIn.names_valid) (list_all g.T.FormIn.texts_valid)) c.push_found.new.found) (sym more)
    (c.in_ok-push_found.ensures g.T.FormIn.names_valid g.T.FormIn.texts_valid _ _ c.loop-item.invariant c.in_ok-next.ensures)

pub returns : goal.returns
returns g c =
    subst (λ vs. Finds (first_fault (list_all g.T.FormIn.names_valid) (list_all g.T.FormIn.texts_valid)) c.loop-item.found (items_read (g.T.FormIn.form_in c.args.setting.now) (items_of (map g.S.Source.content vs)))) (take_all c.loop-item.item-index c.args.items.now c.loop-item-test.false) c.loop-item.invariant
