use Rattle.std.proofs.Common.{codes, subst, sym}
use Rattle.std.specs.List.{list_all}
use Rattle.json_items.proofs.ListLemmas.{Reads-failed}
use Rattle.json_items.specs.Validation.{Finds, first_fault, on_both}
use Rattle.json_source.specs.Read.{text_under}
use Rattle.controller_form.specs.Openings.ShopForm.{shop_form, shop_has_names, shop_has_texts}
use Rattle.world_script.specs.EventForm.{event_has_names, event_has_texts}
use Rattle.world_script.specs.Script.{events_in, parts_in}
use Rattle.world_script.proofs.Scripts.{no_events, no_master, parts_are, text_lent}
use Rattle.world_script.proofs.read.find_parts.Goals as goal

pub returns-in_err-master : goal.returns-in_err-master
returns-in_err-master g c =
    let d = g.S.Source.content c.args.value.now in
    Reads-failed (on_both shop_has_names (list_all event_has_names)) (on_both shop_has_texts (list_all event_has_texts)) c.from_residual-in_err-master.result c.in_err-master.field-0.0 (parts_in c.args.stops d) c.from_residual-in_err-master.ensures.1
    (no_master c.args.stops d c.text_under.result c.in_err-master.field-0.0 c.in_ok-check_members.ensures.read c.in_err-master.ensures.value c.text_under.ensures)

pub returns-in_err-events : goal.returns-in_err-events
returns-in_err-events g c =
    let d = g.S.Source.content c.args.value.now in
    let master = c.in_ok-master.master in
    let text = text_lent c.text_under.result master (text_under (codes "Master") d) c.in_ok-master.ensures.value c.text_under.ensures in
    Reads-failed (on_both shop_has_names (list_all event_has_names)) (on_both shop_has_texts (list_all event_has_texts)) c.from_residual-in_err-events.result c.in_err-events.field-0.0 (parts_in c.args.stops d) c.from_residual-in_err-events.ensures.1
    (no_events c.args.stops d master.now c.in_err-events.field-0.0 c.in_ok-check_members.ensures.read text c.in_err-events.ensures)

pub returns : goal.returns
returns g c =
    let d = g.S.Source.content c.args.value.now in
    let master = c.in_ok-master.master in
    let text = text_lent c.text_under.result master (text_under (codes "Master") d) c.in_ok-master.ensures.value c.text_under.ensures in
    subst (Finds (first_fault (on_both shop_has_names (list_all event_has_names)) (on_both shop_has_texts (list_all event_has_texts))) c.zip.result) (sym (parts_are c.args.stops d master.now c.in_ok-check_members.ensures.read text))
    (c.zip.ensures shop_has_names shop_has_texts (shop_form d) (list_all event_has_names) (list_all event_has_texts) (events_in c.args.stops master.now d) c.in_ok-shop.ensures c.in_ok-events.ensures)
