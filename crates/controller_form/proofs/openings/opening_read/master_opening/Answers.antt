use Rattle.std.proofs.Common.{◌≡◌, ◌∙◌, ⊎_elim, inl, inr, Bool, true, false, [], ◌∷◌, Option, Some, None, Result, Ok, Err, refl, sym, ap}
use Rattle.std.specs.Option.{option_map_or}
use Rattle.std.specs.Result.{result_map_both}
use Rattle.serde_json.specs.Data.{Data}
use Rattle.ticket_items.specs.FirstFault.{first_of, unless}
use Rattle.ticket_items.specs.Ids.{are_distinct}
use Rattle.ticket_items.specs.declared.refusal.Refusal.{Refusal}
use Rattle.ticket_items.specs.declared.refusal.Refusal.TheVariants.{NotProfile, SameName}
use Rattle.json_items.specs.Validation.{built_value, checked_value}
use Rattle.json_source.specs.Read.{◌>>=◌, has_only, some_if}
use Rattle.controller_form.specs.Openings.OpeningForm.{master_form, master_members, master_read, opening_of_shop, shop_read, shop_read_fault}
use Rattle.controller_form.specs.Openings.ShopForm.{shop_fault, shop_form, shop_has_names, shop_has_texts, shop_of}
use Rattle.controller_form.specs.declared.openings.opening.Opening.{Opening}
use Rattle.controller_form.specs.declared.openings.opening.Opening.TheVariants.{Master}
use Rattle.controller_form.specs.declared.openings.shop.Shop.{Shop}
use Rattle.controller_form.proofs.Reading.{all_pass, sound_draft}
use Rattle.controller_form.proofs.Refusing.{handed_on}
use Rattle.controller_form.proofs.openings.opening_read.master_opening.Goals as goal

passed : (f : Option Refusal) (b : Bool) → first_of (f ∷ unless b SameName ∷ []) ≡ None → b ≡ true
passed None true e = refl
passed None false e = cc
passed (Some f) b e = cc

-- no two names of a shop that is read are one
named : (d : Data) (shop : Shop) → shop_read d ≡ Ok shop → are_distinct (shop.master ∷ shop.workers) ≡ true
named d shop read =
    let is = sound_draft shop_read_fault shop_of (master_form d) shop read in
    ap (λ (x : Shop). are_distinct (x.master ∷ x.workers)) (sym is.same) ∙ passed _ _ (all_pass _ _ _ is.sound).none

-- a value with these members alone is read as the shop in it
alone : (d : Data) → some_if (has_only master_members d) ≡ Some tt → shop_read d ≡ built_value shop_has_names shop_has_texts shop_fault shop_of (shop_form d)
alone d only = ap (λ o. option_map_or (λ s. checked_value (shop_read_fault s) (shop_of s)) (o >>= λ _. shop_form d) (Err NotProfile)) only

abbrev begun : Result Shop Refusal → Result Opening Refusal
begun = result_map_both opening_of_shop (λ e. e)

pub returns-in_err-shop : goal.returns-in_err-shop
returns-in_err-shop g c =
    let d = g.S.Source.content c.args.value.now in
    handed_on c.from_residual-in_err-shop.result c.in_err-shop.field-0.0 (master_read d) c.from_residual-in_err-shop.ensures.1
    (⊎_elim (λ memory. inl memory) (λ is. inr (ap begun (alone d c.in_ok-check_members.ensures.read ∙ is))) c.in_err-shop.ensures)

pub returns-in_err-master : goal.returns-in_err-master
returns-in_err-master g c =
    let d = g.S.Source.content c.args.value.now in
    let memory = c.in_err-master.ensures.memory (named d _ (alone d c.in_ok-check_members.ensures.read ∙ c.in_ok-shop.ensures)) in
    handed_on c.from_residual-in_err-master.result c.in_err-master.field-0.0 (master_read d) c.from_residual-in_err-master.ensures.1 (inl memory)

pub returns : goal.returns
returns g c =
    let d = g.S.Source.content c.args.value.now in
    ap begun (alone d c.in_ok-check_members.ensures.read ∙ c.in_ok-shop.ensures) ∙ ap (λ m. Ok (Master m)) (sym c.in_ok-master.ensures.ok)
