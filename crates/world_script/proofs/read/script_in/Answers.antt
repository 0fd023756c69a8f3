use Rattle.std.proofs.Common.{◌≡◌, ◌∙◌, ⊎_elim, inl, inr, Bool, List, Option, Result, Ok, refl, ap, sym}
use Rattle.std.specs.List.{list_all}
use Rattle.serde_json.specs.Data.{Data}
use Rattle.ticket_items.specs.declared.refusal.Refusal.{Refusal}
use Rattle.json_items.specs.Validation.{Finds, checked_value, first_fault, on_both}
use Rattle.controller_form.specs.Openings.ShopForm.{shop_fault, shop_has_names, shop_has_texts}
use Rattle.controller_form.specs.declared.openings.raw_shop.RawShop.{RawShop}
use Rattle.controller_form.specs.declared.openings.shop.Shop.{Shop}
use Rattle.controller_form.proofs.Refusing.{handed_on, parts_refused, parts_taken}
use Rattle.world_items.specs.declared.event.Event.{Event}
use Rattle.world_script.specs.EventForm.{event_has_names, event_has_texts}
use Rattle.world_script.specs.Script.{RawScript, parts_in, script_has_names, script_has_texts, script_in, script_of}
use Rattle.world_script.specs.declared.script.Script.{Script}
use Rattle.world_script.proofs.Scripts.{draft_in, made_of_parts, nothing_read, read_of_draft, script}
use Rattle.world_script.proofs.read.script_in.Goals as goal

abbrev Parts : Type 0
Parts = RawShop × List Event

abbrev fault : Parts → Option Refusal
fault = first_fault (on_both shop_has_names (list_all event_has_names)) (on_both shop_has_texts (list_all event_has_texts))

abbrev late : RawScript → Option Refusal
late s = shop_fault s.shop

same_fault : (p : Parts) → first_fault script_has_names script_has_texts (script p) ≡ fault p
same_fault p = refl

-- the parts are valid, and what is wrong with the shop is told
taken : (stops : Bool) (d : Data) (found : Result Parts Refusal) (p : Parts) → found ≡ Ok p → Finds fault found (parts_in stops d) → script_in stops d ≡ checked_value (shop_fault p.0) (script_of (script p))
taken stops d found p is finds =
    read_of_draft stops d
    ∙ parts_taken fault script script_has_names script_has_texts late script_of (parts_in stops d) (draft_in stops d) found p (made_of_parts stops d) same_fault is finds

abbrev of_shop : List Event → Shop → Result Script Refusal
of_shop events shop = Ok (record { master = shop.master; workers = shop.workers; ticket = shop.ticket; events = events })

pub returns-in_err-find_parts : goal.returns-in_err-find_parts
returns-in_err-find_parts g c =
    let d = g.S.Source.content c.args.value.now in
    handed_on c.from_residual.result c.in_err-find_parts.field-0.0 (script_in c.args.stops d) c.from_residual.ensures.1
    (nothing_read c.args.stops d c.in_err-find_parts.field-0.0 c.in_err-find_parts.ensures)

pub returns-in_err-shop : goal.returns-in_err-shop
returns-in_err-shop g c =
    let d = g.S.Source.content c.args.value.now in
    handed_on c.from_residual-in_err-shop.result c.in_err-shop.field-0.0 (script_in c.args.stops d) c.from_residual-in_err-shop.ensures.1
    (inr (read_of_draft c.args.stops d
    ∙ parts_refused fault script script_has_names script_has_texts late script_of (parts_in c.args.stops d) (draft_in c.args.stops d) c.in_ok-find_parts.field-0 c.in_err-shop.field-0.0 (made_of_parts c.args.stops d) same_fault c.in_err-shop.was c.in_ok-find_parts.ensures))

pub returns-in_err-shop-2 : goal.returns-in_err-shop-2
returns-in_err-shop-2 g c =
    let d = g.S.Source.content c.args.value.now in
    let p : Parts = (c.in_ok-shop.shop, c.in_ok-shop.events) in
    handed_on c.from_residual-in_err-shop-2.result c.in_err-shop-2.field-0.0 (script_in c.args.stops d) c.from_residual-in_err-shop-2.ensures.1
    (⊎_elim (λ memory. inl memory) (λ wrong. inr (taken c.args.stops d c.in_ok-find_parts.field-0 p c.in_ok-shop.was c.in_ok-find_parts.ensures ∙ ap (λ f. checked_value f (script_of (script p))) wrong)) c.in_err-shop-2.ensures.err)

pub returns : goal.returns
returns g c =
    let d = g.S.Source.content c.args.value.now in
    let p : Parts = (c.in_ok-shop.shop, c.in_ok-shop.events) in
    taken c.args.stops d c.in_ok-find_parts.field-0 p c.in_ok-shop.was c.in_ok-find_parts.ensures
    ∙ ap (λ f. checked_value f (script_of (script p))) c.in_ok-shop-2.ensures.sound
    ∙ ap (of_shop c.in_ok-shop.events) (sym c.in_ok-shop-2.ensures.ok)
